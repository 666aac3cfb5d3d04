-- Laws of what a number names: number n of a list stands at place n - 1, and number 0 names nothing.
use Prim.Native.Nat.{ℕ, zero, suc, ◌+◌, ◌-◌, ◌≤◌, ◌<◌}
use native.Mathlib.Omega.{arith}
use mathlib.Core.Path.{◌≡◌, refl, ap, ◌∙◌}
use mathlib.Core.Logic.{◌≢◌}
use mathlib.Core.List.{List, [], ◌∷◌, ◌++◌}
use lib.ListN.{length, get_or, take, set, replicate, get_or-replicate, get_or-append}
use lib.Seq.{get_or-take, get_or-set_same, get_or-set_other, get_or-append-add}
use Rattle.laws.specs.Lists.{All, sum, number}
use Rattle.laws.specs.Asked.{Within}
use Rattle.laws.specs.Alls.{all_at, all_anywhere, get_or_number}
use Rattle.plain.specs.Book.{nth}

-- an element counts in its sum
pub sum_at : {A : Type 0} (f : A → ℕ) (xs : List A) (i : ℕ) (x : A) → i < length xs → f (get_or xs i x) ≤ sum f xs
sum_at f [] i x h = absurd (omega arith)
sum_at f (y ∷ xs) zero x h = omega arith
sum_at f (y ∷ xs) (suc i) x h = omega (arith, sum_at f xs i x (omega arith))

module _ {A : Type 0} (d : A) where
  pub nth_at : (l : List A) (n : ℕ) → 1 ≤ n → nth d l n ≡ get_or l (n - 1) d
  nth_at l zero h = absurd (omega arith)
  nth_at l (suc n) h = ap (λ (k : ℕ). get_or l k d) (omega arith)

  -- the other way round: place i is number i + 1
  pub place_nth : (l : List A) (i n : ℕ) → n ≡ suc i → nth d l n ≡ get_or l i d
  place_nth l i n e = ap (nth d l) e

  -- what holds of each element, and of nothing, holds of what a number names
  pub nth_anywhere : (P : A → Type 0) (l : List A) (n : ℕ) → P d → All P l → P (nth d l n)
  nth_anywhere P l zero h k = h
  nth_anywhere P l (suc n) h k = all_anywhere P l n d h k

  pub nth_all : (P : A → Type 0) (l : List A) (n : ℕ) → Within 1 (length l) n → All P l → P (nth d l n)
  nth_all P l n h k = rw (nth_at l n h.above) (all_at P l (n - 1) d (omega (arith, h.above, h.below)) k)

  -- what two lists have alike at each place, they have alike by number
  pub nth_alike : {B : Type 0} (f : A → B) (xs ys : List A) → ((i : ℕ) → f (get_or xs i d) ≡ f (get_or ys i d)) → (n : ℕ) → f (nth d xs n) ≡ f (nth d ys n)
  nth_alike f xs ys h zero = refl
  nth_alike f xs ys h (suc n) = h n

  pub sum_named : (f : A → ℕ) (l : List A) (n : ℕ) → Within 1 (length l) n → f (nth d l n) ≤ sum f l
  sum_named f l n h = rw (nth_at l n h.above) (sum_at f l (n - 1) d (omega (arith, h.above, h.below)))

  pub nth_take : (l : List A) (count n : ℕ) → Within 1 count n → nth d (take count l) n ≡ get_or l (n - 1) d
  nth_take l count n h = nth_at (take count l) n h.above ∙ get_or-take count l (n - 1) d (omega (arith, h.above, h.below))

  pub nth_set_same : (l : List A) (n : ℕ) (x : A) → Within 1 (length l) n → nth d (set l (n - 1) x) n ≡ x
  nth_set_same l n x h = nth_at (set l (n - 1) x) n h.above ∙ get_or-set_same l (n - 1) x d (omega (arith, h.above, h.below))

  pub nth_set_other : (l : List A) (k n : ℕ) (x : A) → 1 ≤ k → n ≢ k → nth d (set l (k - 1) x) n ≡ nth d l n
  nth_set_other l k zero x h e = refl
  nth_set_other l k (suc n) x h e = get_or-set_other l (k - 1) n x d (λ s. e (omega arith))

  pub nth_replicate : (count n : ℕ) (x : A) → Within 1 count n → nth d (replicate count x) n ≡ x
  nth_replicate count n x h = nth_at (replicate count x) n h.above ∙ get_or-replicate count (n - 1) x d (omega (arith, h.above, h.below))

  -- a number below those that are added, and one of those
  pub nth_append : (l m : List A) (n : ℕ) → n ≤ length l → nth d (l ++ m) n ≡ nth d l n
  nth_append l m n h = get_or-append (d ∷ l) m d n (omega arith)

  pub nth_behind : (l m : List A) (i : ℕ) → nth d (l ++ m) (suc (length l) + i) ≡ get_or m i d
  nth_behind l m i =
      ap (nth d (l ++ m)) (let next : suc (length l) + i ≡ suc (length l + i) = omega arith in next) ∙ get_or-append-add l m i d

  pub nth_number : {B : Type 0} (f : ℕ → B → A) (e : B) (l : List B) (n : ℕ) → Within 1 (length l) n → nth d (number f 1 l) n ≡ f n (nth e l n)
  nth_number f e l zero h = absurd (omega (arith, h.above))
  nth_number f e l (suc n) h =
      get_or_number f 1 l n d e (omega (arith, h.below)) ∙ ap (λ (k : ℕ). f k (get_or l n e)) (omega arith)
