-- Laws of the highest of a list of numbers. None of them speaks of the list's order: no number exceeds it, and it is one of them.
use Rattle.std.specs.Prelude.{ℕ, ◌≤◌, max, ◌≡◌, Bool, true, false, ◌||◌, List, [], ◌∷◌, leb, eqb}
use Rattle.std.proofs.Common.{arith, ap, ◌∙◌, leb-true, leb-false, eq-eqb}
use Rattle.std.proofs.Math.Bool.{or-true}
use Rattle.laws.specs.Asked.{Said, passed, failed, ask}
use Rattle.laws.specs.Lists.{highest, some, All}
use Rattle.laws.specs.Alls.{all_of}

pub highest_most : (m : ℕ) (xs : List ℕ) → All (λ x. x ≤ m) xs → highest xs ≤ m
highest_most m [] h = omega arith
highest_most m (x ∷ xs) h = omega (arith, h.0, highest_most m xs h.1)

pub highest_above : (xs : List ℕ) → All (λ x. x ≤ highest xs) xs
highest_above [] = tt
highest_above (x ∷ xs) =
    (omega arith, all_of (λ y. y ≤ highest xs) (λ y. y ≤ max x (highest xs)) xs (λ y h. omega (arith, h)) (highest_above xs))

-- one number more before those among which m is
among_more : (x m : ℕ) (ys : List ℕ) → some (λ y. eqb y m) ys ≡ true → some (λ y. eqb y (max x m)) (x ∷ ys) ≡ true
among_more x m ys h = go (ask (leb m x))
  where
    go : Said (leb m x) → some (λ y. eqb y (max x m)) (x ∷ ys) ≡ true
    go (passed t) =
        let first : x ≡ max x m = omega (arith, leb-true m x t) in
        ap (λ (b : Bool). b || some (λ y. eqb y (max x m)) ys) (eq-eqb x (max x m) first)
    go (failed t) =
        let later : max x m ≡ m = omega (arith, leb-false m x t) in
        ap (λ (b : Bool). eqb x (max x m) || b) (ap (λ (k : ℕ). some (λ y. eqb y k) ys) later ∙ h) ∙ or-true (eqb x (max x m))

pub highest_among : (x : ℕ) (xs : List ℕ) → some (λ y. eqb y (highest (x ∷ xs))) (x ∷ xs) ≡ true
highest_among x [] = ap (λ (b : Bool). b || false) (eq-eqb x (max x 0) (omega arith))
highest_among x (y ∷ ys) = among_more x (highest (y ∷ ys)) (y ∷ ys) (highest_among y ys)
