-- Laws of lists: sums, ranges, tests over a list, numbered lists.
use Rattle.std.specs.Prelude.{ℕ, zero, suc, ◌+◌, ◌-◌, ◌≤◌, ◌<◌, ◌≡◌, refl, Bool, true, false, length, get_or}
use native.Mathlib.Nat.{add-zero}
use Rattle.std.proofs.Common.{arith, ap, sym, ◌∙◌}
use mathlib.Core.List.{List, [], ◌∷◌, ◌++◌}
use Rattle.laws.specs.Lists.{range, keep, filter, sum, each}

pub length_range : (a n : ℕ) → length (range a n) ≡ n
length_range a zero = refl
length_range a (suc n) = ap suc (length_range (suc a) n)

pub get_or_range : (a n i d : ℕ) → i < n → get_or (range a n) i d ≡ a + i
get_or_range a zero i d h = absurd (omega arith)
get_or_range a (suc n) zero d h = sym (add-zero a)
get_or_range a (suc n) (suc i) d h = get_or_range (suc a) n i d (omega arith) ∙ omega arith

-- n more numbers follow the first n
pub range_append : (a n k : ℕ) → range a (n + k) ≡ range a n ++ range (a + n) k
range_append a zero k = rw (native.Mathlib.Nat.zero-add, add-zero)
range_append a (suc n) k =
    rw (native.Mathlib.Nat.suc-add) (ap (λ (l : List ℕ). a ∷ l) (range_append (suc a) n k ∙ ap (λ (b : ℕ). range (suc a) n ++ range b k) (omega arith)))

module _ {A : Type 0} where
  pub sum_append : (f : A → ℕ) (xs ys : List A) → sum f (xs ++ ys) ≡ sum f xs + sum f ys
  sum_append f [] ys = omega arith
  sum_append f (x ∷ xs) ys = omega (arith, sum_append f xs ys)

  pub each_append : {B : Type 0} (f : B → List A) (xs ys : List B) → each f (xs ++ ys) ≡ each f xs ++ each f ys
  each_append f [] ys = refl
  each_append f (x ∷ xs) ys = rw (each_append f xs ys) (sym (mathlib.Core.List.append_assoc (f x) (each f xs) (each f ys)))

  pub each_empty : {B : Type 0} (ys : List B) → each {A = A} (λ y. []) ys ≡ []
  each_empty [] = refl
  each_empty (y ∷ ys) = each_empty ys

  keep_length : (b : Bool) (x : A) (xs : List A) (n : ℕ) → length xs ≤ n → length (keep b x xs) ≤ suc n
  keep_length true x xs n h = omega arith
  keep_length false x xs n h = omega arith

  pub filter_length : (p : A → Bool) (xs : List A) → length (filter p xs) ≤ length xs
  filter_length p [] = omega arith
  filter_length p (x ∷ xs) = keep_length (p x) x (filter p xs) (length xs) (filter_length p xs)

  filter_joined : (b : Bool) (x : A) (l xs ys : List A) → l ≡ xs ++ ys → keep b x l ≡ keep b x xs ++ ys
  filter_joined true x l xs ys e = ap (λ (k : List A). x ∷ k) e
  filter_joined false x l xs ys e = e

  pub filter_append : (p : A → Bool) (xs ys : List A) → filter p (xs ++ ys) ≡ filter p xs ++ filter p ys
  filter_append p [] ys = refl
  filter_append p (x ∷ xs) ys = filter_joined (p x) x (filter p (xs ++ ys)) (filter p xs) (filter p ys) (filter_append p xs ys)
