-- Words and their bytes are inverse.
use Rattle.std.specs.Prelude.{ℕ, zero, suc, ◌+◌, ◌*◌, ◌/◌, ◌%◌, ◌<◌, ◌≤◌, ◌≡◌, refl, List, [], ◌∷◌, map, Bool, not, eqb, length, get_or, take, drop}
use Rattle.std.proofs.Common.{add_assoc, arith, ap, ap₂, ◌∙◌}
use Rattle.std.proofs.Math.Nat.{div-div-eq-div-mul}
use Rattle.std.proofs.Math.Numerals.{towards_suc}
use Rattle.laws.specs.Lists.{All, range}
use Rattle.laws.specs.Words.{word_of, bytes_of, word16, word32, word16_at, word32_at, word64_at, bytes16, bytes32}
use Rattle.laws.specs.Parts.{get_or_part, read_part}

-- a byte or a word is not 0
abbrev pub nonzero : ℕ → Bool
nonzero n = not (eqb n 0)

pub word16_bytes : (n : ℕ) → n < 65536 → word16 (n % 256) (n / 256 % 256) ≡ n
word16_bytes n h = omega arith

-- each digit in base 256 is taken from what the digit before it leaves
word32_digits : (n m p q : ℕ) → n / 256 ≡ m → m / 256 ≡ p → p / 256 ≡ q → q < 256 → word32 (n % 256) (m % 256) (p % 256) (q % 256) ≡ n
word32_digits n m p q e f g h = omega arith

pub word32_bytes : (n : ℕ) → n < 4294967296 → word32 (n % 256) (n / 256 % 256) (n / 65536 % 256) (n / 16777216 % 256) ≡ n
word32_bytes n h =
    word32_digits n (n / 256) (n / 65536) (n / 16777216) refl (div-div-eq-div-mul n 256 256) (div-div-eq-div-mul n 65536 256) (omega arith)

-- the bytes of the word that bytes make are those bytes, at any width
pub bytes_word : (bs : List ℕ) → All (λ b. b < 256) bs → bytes_of (length bs) (word_of bs) ≡ bs
unfolding bytes_of word_of
bytes_word [] small = refl
bytes_word (b ∷ bs) small =
    let low : (b + 256 * word_of bs) % 256 ≡ b = omega (arith, small.0) in
    let high : (b + 256 * word_of bs) / 256 ≡ word_of bs = omega (arith, small.0) in
    ap₂ (λ (x : ℕ) (l : List ℕ). x ∷ l) low (ap (bytes_of (length bs)) high ∙ bytes_word bs small.1)

pub bytes16_word : (a b : ℕ) → a < 256 → b < 256 → bytes16 (word16 a b) ≡ a ∷ b ∷ []
unfolding bytes_of word_of
bytes16_word a b ha hb =
    let same : word16 a b ≡ word_of (a ∷ b ∷ []) = omega arith in
    ap bytes16 same ∙ bytes_word (a ∷ b ∷ []) (ha, (hb, tt))

pub bytes32_word : (a b c d : ℕ) → a < 256 → b < 256 → c < 256 → d < 256 → bytes32 (word32 a b c d) ≡ a ∷ b ∷ c ∷ d ∷ []
unfolding bytes_of word_of
bytes32_word a b c d ha hb hc hd =
    let same : word32 a b c d ≡ word_of (a ∷ b ∷ c ∷ d ∷ []) = omega arith in
    digits (word32 a b c d) ∙ ap (bytes_of 4) same ∙ bytes_word (a ∷ b ∷ c ∷ d ∷ []) (ha, (hb, (hc, (hd, tt))))
  where
    digits : (n : ℕ) → bytes32 n ≡ bytes_of 4 n
    digits n = rw (div-div-eq-div-mul n 256 256, div-div-eq-div-mul n 65536 256)

-- a word of the n bytes that stand from a place on
pub word16_part : (l : List ℕ) (at n j : ℕ) → j + 2 ≤ n → word16_at (take n (drop at l)) j ≡ word16_at l (at + j)
word16_part l at n j h =
    rw (get_or_part l at n j 0 (omega arith), get_or_part l at n (j + 1) 0 (omega arith), add_assoc at j 1)

pub word32_part : (l : List ℕ) (at n j : ℕ) → j + 4 ≤ n → word32_at (take n (drop at l)) j ≡ word32_at l (at + j)
word32_part l at n j h =
    rw (get_or_part l at n j 0 (omega arith), get_or_part l at n (j + 1) 0 (omega arith), get_or_part l at n (j + 2) 0 (omega arith), get_or_part l at n (j + 3) 0 (omega arith), add_assoc at j 1, add_assoc at j 2, add_assoc at j 3)

-- the bytes of the word of eight bytes that begins at a place
pub bytes64_at : (l : List ℕ) (at : ℕ) → at + 8 ≤ length l → ((i : ℕ) → get_or l i 0 < 256) → bytes_of 8 (word64_at l at) ≡ take 8 (drop at l)
bytes64_at l at h small = ap (bytes_of 8) same ∙ bytes_word (map (λ k. get_or l k 0) (range at 8)) (bytes at 8) ∙ read_part l 0 at 8 h
  where
    bytes : (k n : ℕ) → All (λ b. b < 256) (map (λ j. get_or l j 0) (range k n))
    bytes k zero = tt
    bytes k (suc n) = (small k, bytes (suc k) n)

    same : word64_at l at ≡ word_of (map (λ k. get_or l k 0) (range at 8))
    same = unfold word_of in simp towards_suc (omega arith)
