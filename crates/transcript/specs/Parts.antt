-- A part of a list up to a place, or to its end where that comes first.
use Rattle.std.specs.Prelude.{ℕ, zero, suc, min, ◌≡◌, List, [], ◌∷◌, length, take, drop}
use Rattle.std.proofs.Math.Nat.{zero-min, min-zero, suc-min-suc}
use Rattle.std.proofs.Common.{ap, ◌∙◌}

module _ {A : Type 0} where
  pub take_min : (n : ℕ) (l : List A) → take (min n (length l)) l ≡ take n l
  take_min zero l = ap (λ (k : ℕ). take k l) (zero-min (length l))
  take_min (suc n) [] = ap (λ (k : ℕ). take k []) (min-zero (suc n))
  take_min (suc n) (x ∷ xs) = ap (λ (k : ℕ). take k (x ∷ xs)) (suc-min-suc n (length xs)) ∙ ap (λ (t : List A). x ∷ t) (take_min n xs)

  pub drop_min : (n : ℕ) (l : List A) → drop (min n (length l)) l ≡ drop n l
  drop_min zero l = ap (λ (k : ℕ). drop k l) (zero-min (length l))
  drop_min (suc n) [] = ap (λ (k : ℕ). drop k []) (min-zero (suc n))
  drop_min (suc n) (x ∷ xs) = ap (λ (k : ℕ). drop k (x ∷ xs)) (suc-min-suc n (length xs)) ∙ drop_min n xs
