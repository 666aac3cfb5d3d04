-- Masks of whole bytes, and one law over any of them and any word: the two have a bit in common just where a byte that the mask
-- names is not 0.
use Rattle.std.specs.Prelude.{ℕ, ◌+◌, ◌*◌, ◌/◌, ◌%◌, ◌<◌, ◌≡◌, List, [], ◌∷◌, map, Bool, true, false, ◌&&◌, ◌||◌, eqb, length}
use Rattle.std.proofs.Common.{div-add-mod', mod-eq_of_lt, arith, ap, ap₂, sym, ◌∙◌, eq-eqb, ne_eqb, eqb-true}
use Rattle.std.specs.Int.Bits.{bit_and, and_zero_r}
use Rattle.std.proofs.lemmas.Nat.{and_block, and_mask}
use Rattle.std.proofs.lemmas.Bool.{eqb-false}
use Rattle.laws.specs.Lists.{only}
use Rattle.laws.specs.Words.{word_of, bytes_of}
use Rattle.laws.specs.WordLaws.{nonzero}
use Rattle.laws.specs.Asked.{Said, passed, failed, ask}

-- the mask that names bytes: 255 at each that is named, 0 at the others, the lowest first
abbrev pub mask_of : List Bool → ℕ
mask_of named = word_of (map (λ n. only n 255) named)

-- some byte that is named is not 0
unfoldable pub set_in : List Bool → List ℕ → Bool
set_in [] bytes = false
set_in (n ∷ named) [] = false
set_in (n ∷ named) (b ∷ bytes) = n && nonzero b || set_in named bytes

-- a word is not 0 where its lowest byte is not or those above it are not
nonzero_above : (low high : ℕ) → nonzero (high * 256 + low) ≡ nonzero low || nonzero high
nonzero_above low high = go (ask (eqb low 0)) (ask (eqb high 0))
  where
    go : Said (eqb low 0) → Said (eqb high 0) → nonzero (high * 256 + low) ≡ nonzero low || nonzero high
    go (passed p) (passed q) =
        rw (p, q, eq-eqb (high * 256 + low) 0 (omega (arith, eqb-true low 0 p, eqb-true high 0 q)))
    go (passed p) (failed q) = rw (p, q, ne_eqb (high * 256 + low) 0 (λ e. eqb-false high 0 q (omega arith)))
    go (failed p) s = rw (p, ne_eqb (high * 256 + low) 0 (λ e. eqb-false low 0 p (omega arith)))

-- a byte under a byte of the mask
and_byte : (named : Bool) (b : ℕ) → b < 256 → nonzero (bit_and b (only named 255)) ≡ named && nonzero b
and_byte true b h = ap nonzero (and_mask b 8 ∙ mod-eq_of_lt h)
and_byte false b h = ap nonzero (and_zero_r b)

only_byte : (named : Bool) → only named 255 < 256
only_byte true = omega arith
only_byte false = omega arith

pub by_mask : (named : List Bool) (word : ℕ) → nonzero (bit_and word (mask_of named)) ≡ set_in named (bytes_of (length named) word)
unfolding word_of bytes_of set_in
by_mask [] word = ap nonzero (and_zero_r word)
by_mask (n ∷ named) word =
    let mask : only n 255 + 256 * mask_of named ≡ mask_of named * 256 + only n 255 = omega arith in
    ap₂ (λ (x y : ℕ). nonzero (bit_and x y)) (sym (div-add-mod' word 256)) mask
    ∙ ap nonzero (and_block 8 (word / 256) (mask_of named) (word % 256) (only n 255) (omega arith) (only_byte n))
    ∙ nonzero_above (bit_and (word % 256) (only n 255)) (bit_and (word / 256) (mask_of named))
    ∙ ap₂ (λ (x y : Bool). x || y) (and_byte n (word % 256) (omega arith)) (by_mask named (word / 256))
