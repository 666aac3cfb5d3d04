-- Places of lists: a list read from a place on, a range read from a number on, a test that two lists are the same.
use Rattle.std.specs.Prelude.{ℕ, zero, suc, ◌+◌, ◌-◌, ◌≤◌, ◌<◌, ◌≡◌, refl, List, [], ◌∷◌, Bool, true, false, ◌&&◌, length, get_or, drop, eqb}
use Rattle.std.proofs.Common.{add-zero, add-one, arith, ap, ◌∙◌, drop_of_length-le, drop-cons, eqb-true, eq-eqb}
use Rattle.std.proofs.lemmas.Bool.{false≢true}
use Rattle.laws.specs.Lists.{range, every, some}
use Rattle.laws.specs.Asked.{Said, passed, failed, ask, and_left, and_right, both, or_left, or_right}

-- what stands at a place of a list and after it; of a list of n numbers, what stands at i and after it
module _ {A : Type 0} where
  pub drop_at : (l : List A) (i : ℕ) (d : A) → i < length l → drop i l ≡ get_or l i d ∷ drop (i + 1) l
  drop_at l i d h = rw (add-one) (drop-cons l i d h)

-- a test of every element, from a place on
pub every_at : (p : ℕ → Bool) (l : List ℕ) (i : ℕ) → i < length l → every p (drop i l) ≡ p (get_or l i 0) && every p (drop (i + 1) l)
every_at p l i h = ap (every p) (drop_at l i 0 h)

pub every_end : (p : ℕ → Bool) (l : List ℕ) (i : ℕ) → length l ≤ i → every p (drop i l) ≡ true
every_end p l i h = ap (every p) (drop_of_length-le l h)

range_cut : (a n k : ℕ) → n ≡ suc k → range a n ≡ a ∷ range (a + 1) k
range_cut a n k e = rw (e, add-one)

pub range_at : (n i : ℕ) → i < n → range i (n - i) ≡ i ∷ range (i + 1) (n - (i + 1))
range_at n i h = range_cut i (n - i) (n - (i + 1)) (omega arith)

pub range_end : (n i : ℕ) → n ≤ i → range i (n - i) ≡ []
range_end n i h =
    let e : n - i ≡ 0 = omega arith in
    ap (λ (k : ℕ). range i k) e

-- two lists are the same
abbrev pub same : List ℕ → List ℕ → Bool
same [] [] = true
same [] (y ∷ ys) = false
same (x ∷ xs) [] = false
same (x ∷ xs) (y ∷ ys) = eqb x y && same xs ys

pub same_true : (xs ys : List ℕ) → same xs ys ≡ true → xs ≡ ys
same_true [] [] e = refl
same_true [] (y ∷ ys) e = absurd (false≢true e)
same_true (x ∷ xs) [] e = absurd (false≢true e)
same_true (x ∷ xs) (y ∷ ys) e =
    let h : x ≡ y = eqb-true x y (and_left (eqb x y) (same xs ys) e) in
    let t : xs ≡ ys = same_true xs ys (and_right (eqb x y) (same xs ys) e) in
    cc

pub same_refl : (xs : List ℕ) → same xs xs ≡ true
same_refl [] = refl
same_refl (x ∷ xs) = both (eqb x x) (same xs xs) (eq-eqb x x refl) (same_refl xs)

pub same_lengths : (xs ys : List ℕ) → (length xs ≡ length ys → ⊥) → same xs ys ≡ false
same_lengths xs ys h = go (ask (same xs ys))
  where
    go : Said (same xs ys) → same xs ys ≡ false
    go (passed e) = absurd (h (ap length (same_true xs ys e)))
    go (failed e) = e

-- the same test, from a place on
pub same_at : (xs ys : List ℕ) (i : ℕ) → i < length xs → i < length ys → same (drop i xs) (drop i ys) ≡ eqb (get_or xs i 0) (get_or ys i 0) && same (drop (i + 1) xs) (drop (i + 1) ys)
same_at xs ys i h k = rw (drop_at xs i 0 h, drop_at ys i 0 k)

pub same_end : (xs ys : List ℕ) (i : ℕ) → length xs ≤ i → length ys ≤ i → same (drop i xs) (drop i ys) ≡ true
same_end xs ys i h k = rw (drop_of_length-le xs h, drop_of_length-le ys k)

-- a test that every, or some, number of a range passes or fails, at each number of it
pub every_range : (p : ℕ → Bool) (a n i : ℕ) → every p (range a n) ≡ true → i < n → p (a + i) ≡ true
every_range p a zero i e h = absurd (omega arith)
every_range p a (suc n) zero e h = rw add-zero (and_left (p a) (every p (range (suc a) n)) e)
every_range p a (suc n) (suc i) e h =
    ap p (omega arith) ∙ every_range p (suc a) n i (and_right (p a) (every p (range (suc a) n)) e) (omega arith)

pub some_range : (p : ℕ → Bool) (a n i : ℕ) → some p (range a n) ≡ false → i < n → p (a + i) ≡ false
some_range p a zero i e h = absurd (omega arith)
some_range p a (suc n) zero e h = rw add-zero (or_left (p a) (some p (range (suc a) n)) e)
some_range p a (suc n) (suc i) e h =
    ap p (omega arith) ∙ some_range p (suc a) n i (or_right (p a) (some p (range (suc a) n)) e) (omega arith)
