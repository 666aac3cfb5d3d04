-- Digits stored from the last to the first.
use Prim.Native.Nat.{ℕ, zero, suc, ◌+◌, ◌-◌, ◌/◌, ◌%◌, ◌^◌, ◌≤◌, ◌<◌}
use native.Mathlib.Numerals.{add-one}
use native.Mathlib.Omega.{arith}
use mathlib.Core.Path.{◌≡◌, refl, ap, ap₂, sym, subst, ◌∙◌}
use mathlib.Core.List.{List, [], ◌∷◌, ◌++◌, append_assoc}
use lib.ListN.{length, drop, set, length-set}
use lib.Seq.{drop-cons, drop-set-lt, get_or-set_same}
use Rattle.report.specs.Digits.{digits, digits_below, places, places_digits, tenth_below}

-- What is still to be stored before a place: the digits of `left`, which has no more than fit there. With the page from that place on they are
-- the whole page to be.
pub record Unstored (whole page : List ℕ) (at left : ℕ) : Type 0 where
  pub below : left < 10 ^ at
  pub same : places at left ++ drop at page ≡ whole

-- at first all digits of a number are
pub all_unstored : (page : List ℕ) (n : ℕ) → Unstored (digits n ++ drop (length (digits n)) page) page (length (digits n)) n
all_unstored page n =
    record { below = digits_below n; same = ap (λ (l : List ℕ). l ++ drop (length (digits n)) page) (places_digits n) }

-- the last digit is stored, and the tenth is left
stored : (page : List ℕ) (k left : ℕ) → k < length page → places k (left / 10) ++ drop k (set page k (48 + left % 10)) ≡ places (suc k) left ++ drop (suc k) page
unfolding places
stored page k left h =
    let cut : drop k (set page k (48 + left % 10)) ≡ (48 + left % 10) ∷ drop (suc k) page =
    drop-cons (set page k (48 + left % 10)) k 0 (omega (arith, length-set page k (48 + left % 10)))
    ∙ ap₂ (λ (x : ℕ) (l : List ℕ). x ∷ l) (get_or-set_same page k (48 + left % 10) 0 h) (drop-set-lt (suc k) page k (48 + left % 10) (omega arith)) in
    ap (λ (l : List ℕ). places k (left / 10) ++ l) cut ∙ sym (append_assoc (places k (left / 10)) ((48 + left % 10) ∷ []) (drop (suc k) page))

digit_stored : (whole page : List ℕ) (k left : ℕ) → k < length page → Unstored whole page (suc k) left → Unstored whole (set page k (48 + left % 10)) k (left / 10)
digit_stored whole page k left h u =
    record { below = tenth_below k left u.below; same = stored page k left h ∙ u.same }

-- two digits are stored at once
pub two_stored : (whole page : List ℕ) (at left : ℕ) → 1 < at → at ≤ length page → Unstored whole page at left
    → Unstored whole (set (set page (at - 2 + 1) (48 + left % 100 % 10)) (at - 2) (48 + left % 100 / 10)) (at - 2) (left / 100)
two_stored whole page at left h l u =
    let k : ℕ = at - 2 in
    let p : at ≡ suc (suc k) = omega arith in
    let ones : left % 100 % 10 ≡ left % 10 = omega arith in
    let tens : left % 100 / 10 ≡ left / 10 % 10 = omega arith in
    let rest : left / 100 ≡ left / 10 / 10 = omega arith in
    rw (ones, tens, rest, add-one (at - 2))
    (digit_stored whole (set page (suc k) (48 + left % 10)) k (left / 10) (omega (arith, length-set page (suc k) (48 + left % 10)))
    (digit_stored whole page (suc k) left (omega arith) (subst (λ (n : ℕ). Unstored whole page n left) p u)))

-- none is left
pub all_stored : (whole page : List ℕ) (at left : ℕ) → at ≡ 0 → Unstored whole page at left → page ≡ whole
unfolding places
all_stored whole page zero left h u = u.same
all_stored whole page (suc at) left h u = absurd (omega arith)

-- the one that is left is what is left of the number, and is stored
pub last_digit : (whole page : List ℕ) (at left : ℕ) → at ≡ 1 → Unstored whole page at left → left < 10
last_digit whole page at left e u = subst (λ (n : ℕ). left < 10 ^ n) e u.below

pub last_stored : (whole page : List ℕ) (at left : ℕ) → at ≡ 1 → 0 < length page → Unstored whole page at left → set page 0 (48 + left) ≡ whole
last_stored whole page at left e h u =
    let digit : left ≡ left % 10 = omega (arith, last_digit whole page at left e u) in
    ap (λ (d : ℕ). set page 0 (48 + d)) digit
    ∙ all_stored whole (set page 0 (48 + left % 10)) 0 (left / 10) refl (digit_stored whole page 0 left h (subst (λ (n : ℕ). Unstored whole page n left) e u))
