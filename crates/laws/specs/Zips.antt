-- Laws of two lists that are joined place by place.
use Prim.Native.Nat.{ℕ, zero, suc, ◌<◌}
use Rattle.std.proofs.Common.{arith}
use Rattle.std.specs.Prelude.{◌≡◌, length, get_or, set, replicate}
use Rattle.std.proofs.Math.Path.{refl, ap}
use mathlib.Core.List.{List, [], ◌∷◌, zip_with}

module _ {A B C : Type 0} (f : A → B → C) where
  -- a place of the joined list holds what stands there in both
  pub zip_at : (xs : List A) (ys : List B) (i : ℕ) (a : A) (b : B) (c : C) → i < length (zip_with f xs ys) → get_or (zip_with f xs ys) i c ≡ f (get_or xs i a) (get_or ys i b)
  unfolding zip_with
  zip_at [] ys i a b c h = absurd (omega arith)
  zip_at (x ∷ xs) [] i a b c h = absurd (omega arith)
  zip_at (x ∷ xs) (y ∷ ys) zero a b c h = refl
  zip_at (x ∷ xs) (y ∷ ys) (suc i) a b c h = zip_at xs ys i a b c (omega arith)

  -- a place that is set in both lists is set in the joined one
  pub zip_set : (xs : List A) (ys : List B) (i : ℕ) (x : A) (y : B) → zip_with f (set xs i x) (set ys i y) ≡ set (zip_with f xs ys) i (f x y)
  unfolding zip_with
  zip_set [] ys i x y = refl
  zip_set (a ∷ xs) [] zero x y = refl
  zip_set (a ∷ xs) [] (suc i) x y = refl
  zip_set (a ∷ xs) (b ∷ ys) zero x y = refl
  zip_set (a ∷ xs) (b ∷ ys) (suc i) x y = ap (λ (zs : List C). f a b ∷ zs) (zip_set xs ys i x y)

  pub zip_replicate : (n : ℕ) (x : A) (y : B) → zip_with f (replicate n x) (replicate n y) ≡ replicate n (f x y)
  unfolding zip_with
  zip_replicate zero x y = refl
  zip_replicate (suc n) x y = ap (λ (zs : List C). f x y ∷ zs) (zip_replicate n x y)
