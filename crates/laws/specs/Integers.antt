-- Totals: of differences, which are integers, of the places of a list of numbers, and how large a sum can be.
use Rattle.std.specs.Prelude.{ℕ, zero, suc, ◌+◌, ◌*◌, ◌≤◌, ◌≡◌, refl, List, [], ◌∷◌, length, get_or, ltb, ℤ, pos, negsuc, ◌+ℤ◌, ◌-ℤ◌, neg_ℤ}
use Rattle.std.proofs.Common.{add-zero, mul-suc, arith, ap, ◌∙◌, le-ltb, ltb-true}
use Rattle.std.proofs.Math.IntN.{sub_ℕ, +ℤ_assoc, +ℤ_comm, neg_ℤ-+ℤ, +ℤ_invr}
use Rattle.laws.specs.Lists.{range, sum, All}
use Rattle.laws.specs.Asked.{Said, passed, failed, ask}

-- the sum of f over the elements, in integers
abbrev pub sumℤ : {A : Type 0} → (A → ℤ) → List A → ℤ
sumℤ f [] = pos 0
sumℤ f (x ∷ xs) = f x +ℤ sumℤ f xs

-- the sum of a list of numbers
abbrev pub total : List ℕ → ℕ
total l = sum (λ n. n) l

pub sub_is : (a b : ℕ) → sub_ℕ a b ≡ pos a -ℤ pos b
sub_is a zero = simp (le-ltb a 0 (omega arith)) (ap pos (omega arith))
sub_is a (suc b) = refl

pub sub_self : (n : ℕ) → sub_ℕ n n ≡ pos 0
sub_self n = sub_is n n ∙ +ℤ_invr (pos n)

swap_inner : (w x y z : ℤ) → (w +ℤ x) +ℤ (y +ℤ z) ≡ (w +ℤ y) +ℤ (x +ℤ z)
swap_inner w x y z = rw (+ℤ_assoc w x (y +ℤ z), ← +ℤ_assoc x y z, +ℤ_comm x y, +ℤ_assoc y x z, ← +ℤ_assoc w y (x +ℤ z))

pub sub_add : (a b c d : ℕ) → sub_ℕ a b +ℤ sub_ℕ c d ≡ sub_ℕ (a + c) (b + d)
sub_add a b c d =
    rw (sub_is a b, sub_is c d, sub_is (a + c) (b + d), swap_inner (pos a) (neg_ℤ (pos b)) (pos c) (neg_ℤ (pos d)), ← neg_ℤ-+ℤ (pos b) (pos d))

-- the sum of differences is the difference of the sums
pub sum_sub : {A : Type 0} (f g : A → ℕ) (xs : List A) → sumℤ (λ x. sub_ℕ (f x) (g x)) xs ≡ sub_ℕ (sum f xs) (sum g xs)
sum_sub f g [] = refl
sum_sub f g (x ∷ xs) = ap (λ (k : ℤ). sub_ℕ (f x) (g x) +ℤ k) (sum_sub f g xs) ∙ sub_add (f x) (g x) (sum f xs) (sum g xs)

-- a sum over a list is a sum over its places, from whatever number they are counted
pub sum_from : {A : Type 0} (f : A → ℕ) (d : A) (l : List A) (a : ℕ) (g : ℕ → ℕ) → ((i : ℕ) → g (a + i) ≡ f (get_or l i d)) → sum g (range a (length l)) ≡ sum f l
sum_from f d [] a g h = refl
sum_from f d (x ∷ l) a g h =
    omega (arith, h 0, ap g (add-zero a), sum_from f d l (suc a) g (λ i. ap g (omega arith) ∙ h (suc i)))

pub sum_places : (l : List ℕ) (n : ℕ) → length l ≡ n → sum (λ k. get_or l k 0) (range 0 n) ≡ total l
sum_places l n e =
    rw (← e) (sum_from (λ n. n) 0 l 0 (λ k. get_or l k 0) (λ i. ap (λ (k : ℕ). get_or l k 0) (omega arith)))

-- no place is above the total
pub place_le : (l : List ℕ) (k : ℕ) → get_or l k 0 ≤ total l
place_le [] k = omega arith
place_le (x ∷ l) zero = omega arith
place_le (x ∷ l) (suc k) = omega (arith, place_le l k)

-- a sum whose parts are at most m
pub sum_at_most : {A : Type 0} (f : A → ℕ) (m : ℕ) (xs : List A) → All (λ x. f x ≤ m) xs → sum f xs ≤ m * length xs
sum_at_most f m [] h = omega arith
sum_at_most f m (x ∷ xs) h = omega (arith, h.0, sum_at_most f m xs h.1, mul-suc m (length xs))

-- a sum whose parts are at most m times others
pub sum_times : {A : Type 0} (f g : A → ℕ) (m : ℕ) (xs : List A) → All (λ x. f x ≤ m * g x) xs → sum f xs ≤ m * sum g xs
sum_times f g m [] h = omega arith
sum_times f g m (x ∷ xs) h = omega (arith, h.0, sum_times f g m xs h.1)

-- an integer without its sign
abbrev pub magnitude : ℤ → ℕ
magnitude (pos n) = n
magnitude (negsuc n) = suc n

-- a difference is no larger than both numbers
pub sub_magnitude : (a b m : ℕ) → a ≤ m → b ≤ m → magnitude (sub_ℕ a b) ≤ m
sub_magnitude a b m h k = go (ask (ltb a b))
  where
    go : Said (ltb a b) → magnitude (sub_ℕ a b) ≤ m
    go (passed e) = rw e (omega (arith, ltb-true a b e))
    go (failed e) = rw e (omega arith)
