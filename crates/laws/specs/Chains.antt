-- What a chain of iterators answers, in the words of Lists.
use Rattle.std.specs.Prelude.{ℕ, zero, suc, ◌+◌, ◌≡◌, refl, List, [], ◌∷◌, Bool, ◌&&◌, ◌||◌}
use Rattle.std.specs.List.{list_all, list_any, range_with_len, sum_by}
use Rattle.std.proofs.Common.{ap, ◌∙◌, add-one}
use Rattle.std.proofs.lemmas.List.Sums.{sum_by-cons}
use Rattle.laws.specs.Lists.{range, sum, every, some}

module _ {A : Type 0} (p : A → Bool) where
  pub all_every : (xs : List A) → list_all p xs ≡ every p xs
  all_every [] = refl
  all_every (x ∷ xs) = ap (λ (b : Bool). p x && b) (all_every xs)

  pub any_some : (xs : List A) → list_any p xs ≡ some p xs
  any_some [] = refl
  any_some (x ∷ xs) = ap (λ (b : Bool). p x || b) (any_some xs)

-- the numbers of `a..b`
pub numbers_range : (a n : ℕ) → range_with_len a n ≡ range a n
numbers_range a zero = refl
numbers_range a (suc n) = ap (λ (l : List ℕ). a ∷ l) (rw add-one (numbers_range (suc a) n))

pub all_range : (p : ℕ → Bool) (a n : ℕ) → list_all p (range_with_len a n) ≡ every p (range a n)
all_range p a n = ap (list_all p) (numbers_range a n) ∙ all_every p (range a n)

pub any_range : (p : ℕ → Bool) (a n : ℕ) → list_any p (range_with_len a n) ≡ some p (range a n)
any_range p a n = ap (list_any p) (numbers_range a n) ∙ any_some p (range a n)

pub sum_range : (f : ℕ → ℕ) (a n : ℕ) → sum_by f (range_with_len a n) ≡ sum f (range a n)
sum_range f a n = ap (sum_by f) (numbers_range a n) ∙ summed (range a n)
  where
    summed : (xs : List ℕ) → sum_by f xs ≡ sum f xs
    summed [] = refl
    summed (x ∷ xs) = sum_by-cons f x xs ∙ ap (λ (k : ℕ). f x + k) (summed xs)
