-- Laws of ranges: sums over a range, and the elements of a range that pass a test, by their places.
use Rattle.std.specs.Prelude.{ℕ, zero, suc, ◌+◌, ◌-◌, ◌≤◌, ◌<◌, ◌≡◌, refl, List, [], ◌∷◌, map, Bool, true, false, ◌&&◌, ◌||◌, length, get_or}
use Rattle.std.proofs.Common.{add-zero, lt_of_not-le, eq-or-lt_of_le, ⊎_elim, add-one, arith, ap, sym, ◌∙◌, subst, length-append}
use Rattle.std.proofs.Math.Bool.{or-true}
use Rattle.std.proofs.Math.Seq.{get_or-append_seam}
use Rattle.laws.specs.Lists.{range, keep, filter, sum, every, some}
use Rattle.laws.specs.Listed.{range_append, sum_append, filter_append}
use Rattle.laws.specs.Asked.{Said, passed, failed, ask, and_left, and_right, neither}

-- a range up to b, by its first number
pub range_up_to : (a b : ℕ) → a < b → range a (b - a) ≡ a ∷ range (suc a) (b - suc a)
range_up_to a b h = ap (range a) (let e : b - a ≡ suc (b - suc a) = omega arith in e)

pub range_ended : (a b : ℕ) → b ≤ a → range a (b - a) ≡ []
range_ended a b h = ap (range a) (let e : b - a ≡ 0 = omega arith in e)

-- what f makes of the number at a place of a range
pub get_or_mapped : {A : Type 0} (f : ℕ → A) (a n k : ℕ) (d : A) → k < n → get_or (map f (range a n)) k d ≡ f (a + k)
get_or_mapped f a zero k d h = absurd (omega arith)
get_or_mapped f a (suc n) zero d h = ap f (sym (add-zero a))
get_or_mapped f a (suc n) (suc k) d h = get_or_mapped f (suc a) n k d (omega arith) ∙ ap f (omega arith)

-- a sum over a range: with one number more, and over a longer range
module _ (f : ℕ → ℕ) (a : ℕ) where
  pub sum_more : (k : ℕ) → sum f (range a (k + 1)) ≡ sum f (range a k) + f (a + k)
  sum_more k =
      ap (sum f) (range_append a k 1) ∙ sum_append f (range a k) (range (a + k) 1)
      ∙ ap (λ (n : ℕ). sum f (range a k) + n) (add-zero (f (a + k)))

  pub sum_longer : (k m : ℕ) → k ≤ m → sum f (range a k) ≤ sum f (range a m)
  sum_longer k m h =
      let e : sum f (range a m) ≡ sum f (range a k) + sum f (range (a + k) (m - k)) =
      ap (λ (n : ℕ). sum f (range a n)) (let w : m ≡ k + (m - k) = omega arith in w)
      ∙ (ap (sum f) (range_append a k (m - k)) ∙ sum_append f (range a k) (range (a + k) (m - k)))
      in
      omega arith

kept_most : (b : Bool) (x : ℕ) (l : List ℕ) (n : ℕ) → length l ≤ n → length (keep b x l) ≤ suc n
kept_most true x l n h = omega arith
kept_most false x l n h = omega arith

module _ (p : ℕ → Bool) where
  -- how many of n numbers from a on pass the test
  abbrev pub count : ℕ → ℕ → ℕ
  count a n = length (filter p (range a n))

  pub count_add : (a k m : ℕ) → count a (k + m) ≡ count a k + count (a + k) m
  count_add a k m =
      ap (λ (l : List ℕ). length (filter p l)) (range_append a k m)
      ∙ (ap length (filter_append p (range a k) (range (a + k) m)) ∙ length-append (filter p (range a k)) (filter p (range (a + k) m)))

  pub count_longer : (a k m : ℕ) → k ≤ m → count a k ≤ count a m
  count_longer a k m h =
      let e : count a m ≡ count a k + count (a + k) (m - k) =
      ap (count a) (let w : m ≡ k + (m - k) = omega arith in w) ∙ count_add a k (m - k)
      in
      omega arith

  pub count_most : (a n : ℕ) → count a n ≤ n
  count_most a zero = omega arith
  count_most a (suc n) = kept_most (p a) a (filter p (range (suc a) n)) n (count_most (suc a) n)

  count_first : (a n : ℕ) → p a ≡ true → 1 ≤ count a (suc n)
  count_first a n e = rw e (omega arith)

  -- a number that passes is counted past it
  pub count_past : (a k m : ℕ) → k < m → p (a + k) ≡ true → count a k < count a m
  count_past a k m h e =
      let w : count a m ≡ count a k + count (a + k) (suc (m - suc k)) =
      ap (count a) (let v : m ≡ k + suc (m - suc k) = omega arith in v) ∙ count_add a k (suc (m - suc k))
      in
      omega (arith, count_first (a + k) (m - suc k) e)

  -- x stands at place i, counted from 0, among those of n numbers from a on that pass the test
  pub record Listed (a n i x : ℕ) : Type 0 where
    pub passes : p x ≡ true
    pub from : a ≤ x
    pub below : x < a + n
    pub place : count a (x - a) ≡ i

  first_listed : (a n : ℕ) → p a ≡ true → Listed a (suc n) 0 a
  first_listed a n e =
      record {
        passes = e;
        from = omega arith;
        below = omega arith;
        place = ap (count a) (let w : a - a ≡ 0 = omega arith in w);
      }

  -- how the numbers up to x are counted, by the first of them
  count_shift : (a x : ℕ) → a < x → count a (x - a) ≡ length (keep (p a) a (filter p (range (suc a) (x - suc a))))
  count_shift a x h = ap (λ (l : List ℕ). length (filter p l)) (range_up_to a x h)

  shifted : (a n j i x : ℕ) → Listed (suc a) n j x → length (keep (p a) a (filter p (range (suc a) (x - suc a)))) ≡ i → Listed a (suc n) i x
  shifted a n j i x l e =
      record {
        passes = l.passes;
        from = omega (arith, l.from);
        below = omega (arith, l.below);
        place = count_shift a x l.from ∙ e;
      }

  later : (a n i d : ℕ) → Said (p a) → i < count a (suc n) → ((j : ℕ) → j < count (suc a) n → Listed (suc a) n j (get_or (filter p (range (suc a) n)) j d)) → Listed a (suc n) i (get_or (filter p (range a (suc n))) i d)
  later a n zero d (passed e) h rest = rw e (first_listed a n e)
  later a n (suc i) d (passed e) h rest =
      let l = rest i (omega (arith, rw e at h)) in
      rw e (shifted a n i (suc i) _ l (rw e (ap suc l.place)))
  later a n i d (failed e) h rest =
      let l = rest i (rw e at h) in
      rw e (shifted a n i i _ l (rw e l.place))

  -- what stands at a place is listed there
  pub listed : (a n i d : ℕ) → i < count a n → Listed a n i (get_or (filter p (range a n)) i d)
  listed a zero i d h = absurd (omega arith)
  listed a (suc n) i d h = later a n i d (ask (p a)) h (λ j. listed (suc a) n j d)

  seam : (a k m d : ℕ) → p (a + k) ≡ true → get_or (filter p (range a (k + suc m))) (count a k) d ≡ a + k
  seam a k m d e =
      ap (λ (l : List ℕ). get_or l (count a k) d) (ap (filter p) (range_append a k (suc m)) ∙ filter_append p (range a k) (range (a + k) (suc m)))
      ∙ rw e (get_or-append_seam (filter p (range a k)) (a + k) (filter p (range (suc (a + k)) m)) d)

  -- a number that passes stands at the place that is counted before it
  pub found : (a n x d : ℕ) → p x ≡ true → a ≤ x → x < a + n → get_or (filter p (range a n)) (count a (x - a)) d ≡ x
  found a n x d e h l =
      let w : n ≡ (x - a) + suc (n - suc (x - a)) = omega arith in
      let v : a + (x - a) ≡ x = omega arith in
      ap (λ (m : ℕ). get_or (filter p (range a m)) (count a (x - a)) d) w
      ∙ (seam a (x - a) (n - suc (x - a)) d (ap p v ∙ e) ∙ v)

  pub found_below : (a n x : ℕ) → p x ≡ true → a ≤ x → x < a + n → count a (x - a) < count a n
  found_below a n x e h l =
      let v : a + (x - a) ≡ x = omega arith in
      count_past a (x - a) n (omega arith) (ap p v ∙ e)

  -- past the last place there is the default, and only there if it lies past the range
  pub past_default : (a n i d : ℕ) → a + n ≤ d → get_or (filter p (range a n)) i d ≡ d → count a n ≤ i
  past_default a n i d h e =
      let f : count a n < suc i = lt_of_not-le (λ lt. let l = listed a n i d lt in omega (arith, l.below, e)) in
      omega arith

  -- of two that are listed one after the other the second is above, and none between them passes
  pub next_above : (a n i x y : ℕ) → Listed a n i x → Listed a n (i + 1) y → x < y
  next_above a n i x y l k =
      lt_of_not-le (λ le. omega (arith, count_longer a (y - a) (x - a) (omega (arith, le)), l.place, k.place))

  pub none_between : (a n i x y z : ℕ) → Listed a n i x → Listed a n (i + 1) y → x < z → z < y → p z ≡ false
  none_between a n i x y z l k lo hi = decided (ask (p z))
    where
      decided : Said (p z) → p z ≡ false
      decided (failed e) = e
      decided (passed e) =
          let vx : a + (x - a) ≡ x = omega (arith, l.from) in
          let vz : a + (z - a) ≡ z = omega (arith, l.from) in
          let f = count_past a (x - a) (z - a) (omega (arith, l.from)) (ap p vx ∙ l.passes) in
          let g = count_past a (z - a) (y - a) (omega (arith, l.from)) (ap p vz ∙ e) in
          absurd (omega (arith, l.place, k.place))

  -- none before the first that is listed passes
  pub none_before : (a n x z : ℕ) → Listed a n 0 x → a ≤ z → z < x → p z ≡ false
  none_before a n x z l lo hi = decided (ask (p z))
    where
      decided : Said (p z) → p z ≡ false
      decided (failed e) = e
      decided (passed e) =
          let v : a + (z - a) ≡ z = omega arith in
          absurd (omega (arith, l.place, count_past a (z - a) (x - a) (omega arith) (ap p v ∙ e)))

-- a test that passes over a whole range passes at each of its numbers
pub every_at : (t : ℕ → Bool) (a n k : ℕ) → every t (range a n) ≡ true → a ≤ k → k < a + n → t k ≡ true
every_at t a zero k e h l = absurd (omega arith)
every_at t a (suc n) k e h l =
    ⊎_elim (λ q. subst (λ (i : ℕ). t i ≡ true) q (and_left (t a) _ e)) (λ lt. every_at t (suc a) n k (and_right (t a) _ e) lt (omega arith)) (eq-or-lt_of_le h)

-- some number of a range passes a test, or none does
pub some_at : (t : ℕ → Bool) (a n k : ℕ) → a ≤ k → k < a + n → t k ≡ true → some t (range a n) ≡ true
some_at t a zero k h l e = absurd (omega arith)
some_at t a (suc n) k h l e =
    ⊎_elim (λ q. ap (λ (b : Bool). b || some t (range (suc a) n)) (ap t q ∙ e)) (λ lt. ap (λ (b : Bool). t a || b) (some_at t (suc a) n k lt (omega arith) e) ∙ or-true (t a)) (eq-or-lt_of_le h)

pub some_none : (t : ℕ → Bool) (a n : ℕ) → ((k : ℕ) → a ≤ k → k < a + n → t k ≡ false) → some t (range a n) ≡ false
some_none t a zero h = refl
some_none t a (suc n) h =
    neither (t a) (some t (range (suc a) n)) (h a (omega arith) (omega arith)) (some_none t (suc a) n (λ k l u. h k (omega arith) (omega arith)))

-- a test of what f makes of each element
module _ {A : Type 0} (p : A → Bool) (f : ℕ → A) where
  pub every_map : (l : List ℕ) → every p (map f l) ≡ every (λ x. p (f x)) l
  every_map [] = refl
  every_map (x ∷ xs) = ap (λ (b : Bool). p (f x) && b) (every_map xs)

  pub some_map : (l : List ℕ) → some p (map f l) ≡ some (λ x. p (f x)) l
  some_map [] = refl
  some_map (x ∷ xs) = ap (λ (b : Bool). p (f x) || b) (some_map xs)

-- what passes a test from a on up to b, by its first number
module _ (p : ℕ → Bool) (a b : ℕ) where
  pub filter_first : a < b → p a ≡ true → filter p (range a (b - a)) ≡ a ∷ filter p (range (a + 1) (b - (a + 1)))
  filter_first h e =
      ap (filter p) (range_up_to a b h)
      ∙ (ap (λ (t : Bool). keep t a (filter p (range (suc a) (b - suc a)))) e ∙ ap (λ (k : ℕ). a ∷ filter p (range k (b - k))) (sym (add-one a)))

  pub filter_skipped : a < b → p a ≡ false → filter p (range a (b - a)) ≡ filter p (range (a + 1) (b - (a + 1)))
  filter_skipped h e =
      ap (filter p) (range_up_to a b h)
      ∙ (ap (λ (t : Bool). keep t a (filter p (range (suc a) (b - suc a)))) e ∙ ap (λ (k : ℕ). filter p (range k (b - k))) (sym (add-one a)))

  pub filter_ended : b ≤ a → filter p (range a (b - a)) ≡ []
  filter_ended h = ap (filter p) (range_ended a b h)
