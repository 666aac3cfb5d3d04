-- Laws of sums, and of a number that counts only where a test passes.
use Rattle.std.specs.Prelude.{ℕ, zero, suc, ◌+◌, ◌-◌, ◌≤◌, ◌<◌, min, ◌≡◌, refl, ◌≢◌, List, [], ◌∷◌, map, Bool, true, false, ◌&&◌, length, leb, eqb}
use Rattle.std.proofs.Common.{arith, ap, sym, ◌∙◌, length-append, ne_eqb, eqb-true, leb-true, leb-false}
use Rattle.std.proofs.lemmas.Bool.{eqb-false}
use Rattle.laws.specs.Lists.{only, range, keep, sum, each, All}
use Rattle.laws.specs.Asked.{Said, passed, failed, ask, within}
use Rattle.laws.specs.Listed.{sum_append}

pub only_zero : (b : Bool) → only b 0 ≡ 0
only_zero true = refl
only_zero false = refl

pub only_le : (b : Bool) (n : ℕ) → only b n ≤ n
only_le true n = omega arith
only_le false n = omega arith

pub only_mono : (b : Bool) (m n : ℕ) → m ≤ n → only b m ≤ only b n
only_mono true m n h = h
only_mono false m n h = omega arith

pub only_and : (a b : Bool) (n : ℕ) → only (a && b) n ≡ only a (only b n)
only_and true b n = refl
only_and false b n = refl

pub only_add : (b : Bool) (m n : ℕ) → only b (m + n) ≡ only b m + only b n
only_add true m n = refl
only_add false m n = refl

pub only_sub : (b : Bool) (m n : ℕ) → n ≤ m → only b (m - n) + only b n ≡ only b m
only_sub true m n h = omega arith
only_sub false m n h = refl

pub only_min : (b : Bool) (m n : ℕ) → only b (min m n) ≡ min (only b m) n
only_min true m n = refl
only_min false m n = omega arith

module _ {A : Type 0} where
  pub sum_zero : (xs : List A) → sum (λ x. 0) xs ≡ 0
  sum_zero [] = refl
  sum_zero (x ∷ xs) = omega (arith, sum_zero xs)

  -- a test that concerns each element alike
  pub only_sum : (b : Bool) (f : A → ℕ) (xs : List A) → only b (sum f xs) ≡ sum (λ x. only b (f x)) xs
  only_sum true f xs = refl
  only_sum false f xs = sym (sum_zero xs)

  pub sum_length : (xs : List A) → sum (λ x. 1) xs ≡ length xs
  sum_length [] = refl
  sum_length (x ∷ xs) = omega (arith, sum_length xs)

  pub sum_add : (f g : A → ℕ) (xs : List A) → sum (λ x. f x + g x) xs ≡ sum f xs + sum g xs
  sum_add f g [] = refl
  sum_add f g (x ∷ xs) = omega (arith, sum_add f g xs)

  -- two sums that agree at each element
  pub sum_same : (f g : A → ℕ) (xs : List A) → ((x : A) → f x ≡ g x) → sum f xs ≡ sum g xs
  sum_same f g [] h = refl
  sum_same f g (x ∷ xs) h = omega (arith, h x, sum_same f g xs h)

  pub sum_same_all : (f g : A → ℕ) (xs : List A) → All (λ x. f x ≡ g x) xs → sum f xs ≡ sum g xs
  sum_same_all f g [] h = refl
  sum_same_all f g (x ∷ xs) h = omega (arith, h.0, sum_same_all f g xs h.1)

  pub sum_le : (f g : A → ℕ) (xs : List A) → ((x : A) → f x ≤ g x) → sum f xs ≤ sum g xs
  sum_le f g [] h = omega arith
  sum_le f g (x ∷ xs) h = omega (arith, h x, sum_le f g xs h)

  pub sum_le_all : (f g : A → ℕ) (xs : List A) → All (λ x. f x ≤ g x) xs → sum f xs ≤ sum g xs
  sum_le_all f g [] h = omega arith
  sum_le_all f g (x ∷ xs) h = omega (arith, h.0, sum_le_all f g xs h.1)

  pub sum_keep : (f : A → ℕ) (b : Bool) (x : A) (rest : List A) → sum f (keep b x rest) ≡ only b (f x) + sum f rest
  sum_keep f true x rest = refl
  sum_keep f false x rest = omega arith

  pub sum_map : {B : Type 0} (f : A → ℕ) (g : B → A) (xs : List B) → sum f (map g xs) ≡ sum (λ x. f (g x)) xs
  sum_map f g [] = refl
  sum_map f g (x ∷ xs) = omega (arith, sum_map f g xs)

  pub sum_each : {B : Type 0} (f : A → ℕ) (g : B → List A) (xs : List B) → sum f (each g xs) ≡ sum (λ x. sum f (g x)) xs
  sum_each f g [] = refl
  sum_each f g (x ∷ xs) = omega (arith, sum_append f (g x) (each g xs), sum_each f g xs)

  pub length_each : {B : Type 0} (f : B → List A) (xs : List B) → length (each f xs) ≡ sum (λ x. length (f x)) xs
  length_each f [] = refl
  length_each f (x ∷ xs) = omega (arith, length-append (f x) (each f xs), length_each f xs)

-- the order of two sums does not matter
pub sum_swap : {A B : Type 0} (f : A → B → ℕ) (xs : List A) (ys : List B) → sum (λ x. sum (λ y. f x y) ys) xs ≡ sum (λ y. sum (λ x. f x y) xs) ys
sum_swap f [] ys = sym (sum_zero ys)
sum_swap f (x ∷ xs) ys =
    ap (λ (n : ℕ). sum (λ y. f x y) ys + n) (sum_swap f xs ys) ∙ sym (sum_add (λ y. f x y) (λ y. sum (λ x. f x y) xs) ys)

-- a number stands at most once in a range, and once where it lies in it
pub sum_none : (k c a n : ℕ) → k < a → sum (λ j. only (eqb k j) c) (range a n) ≡ 0
sum_none k c a zero h = refl
sum_none k c a (suc n) h = simp (ne_eqb k a (omega arith)) (omega (arith, sum_none k c (suc a) n (omega arith)))

pub sum_one : (k c a n : ℕ) → a ≤ k → k < a + n → sum (λ j. only (eqb k j) c) (range a n) ≡ c
sum_one k c a zero h l = absurd (omega arith)
sum_one k c a (suc n) h l = go (ask (eqb k a)) (λ p q. sum_one k c (suc a) n p q)
  where
    go : Said (eqb k a) → (suc a ≤ k → k < suc a + n → sum (λ j. only (eqb k j) c) (range (suc a) n) ≡ c) → only (eqb k a) c + sum (λ j. only (eqb k j) c) (range (suc a) n) ≡ c
    go (passed e) ih = simp e (omega (arith, sum_none k c (suc a) n (omega (arith, eqb-true k a e))))
    go (failed e) ih =
        let other : k ≢ a = eqb-false k a e in
        simp e (omega (arith, ih (omega arith) (omega arith)))

pub sum_once : (k c a n : ℕ) → sum (λ j. only (eqb k j) c) (range a n) ≤ c
sum_once k c a zero = omega arith
sum_once k c a (suc n) = go (ask (eqb k a)) (sum_once k c (suc a) n)
  where
    go : Said (eqb k a) → sum (λ j. only (eqb k j) c) (range (suc a) n) ≤ c → only (eqb k a) c + sum (λ j. only (eqb k j) c) (range (suc a) n) ≤ c
    go (passed e) ih = simp e (omega (arith, sum_none k c (suc a) n (omega (arith, eqb-true k a e))))
    go (failed e) ih = simp e (omega (arith, ih))

-- a number counts once in a range that it lies in, and not in another
pub sum_within : (k c a n : ℕ) → sum (λ j. only (eqb k j) c) (range (suc a) n) ≡ only (within (suc a) (a + n) k) c
unfolding within
sum_within k c a n = go (ask (leb (suc a) k)) (ask (leb k (a + n)))
  where
    past : (m i : ℕ) → m + i ≤ k → sum (λ j. only (eqb k j) c) (range m i) ≡ 0
    past m zero l = refl
    past m (suc i) l = simp (ne_eqb k m (omega arith)) (omega (arith, past (suc m) i (omega arith)))

    go : Said (leb (suc a) k) → Said (leb k (a + n)) → sum (λ j. only (eqb k j) c) (range (suc a) n) ≡ only (leb (suc a) k && leb k (a + n)) c
    go (passed s) (passed t) = simp (s, t) (sum_one k c (suc a) n (leb-true (suc a) k s) (omega (arith, leb-true k (a + n) t)))
    go (passed s) (failed t) = simp (s, t) (past (suc a) n (omega (arith, leb-false k (a + n) t)))
    go (failed s) said = simp s (sum_none k c (suc a) n (leb-false (suc a) k s))
