-- What the pieces of a discharge make of the positions: open quantities fall by each piece on both sides, and equal totals stay equal.
use Prim.Native.Nat.{ℕ, suc, ◌+◌, ◌-◌, ◌≤◌, ◌<◌}
use native.Mathlib.Omega.{arith}
use native.Mathlib.Nat.{add-zero}
use mathlib.Core.Path.{◌≡◌, refl, ap, sym, ◌∙◌, subst}
use mathlib.Core.Logic.{◌≢◌}
use mathlib.Core.List.{List, [], ◌∷◌}
use mathlib.Core.Bool.{Bool, true, false, true≢false}
use lib.ListN.{length, get_or}
use lib.Dec.{eqb}
use borrow.Author.Tests.{eq-eqb, ne_eqb, eqb-true, eqb-false, lt-leb}
use Rattle.laws.specs.Lists.{All, only, sum, number}
use Rattle.laws.specs.Asked.{Said, passed, failed, ask, Within}
use Rattle.laws.specs.Sums.{only_zero, only_add, only_sub, only_sum, sum_same_all, sum_add, sum_zero}
use Rattle.laws.specs.Alls.{all_of, all_both, all_at, all_places, length_number, get_or_number}
use Rattle.plain.specs.declared.Position.{Position}
use Rattle.plain.specs.declared.Piece.{Piece}
use Rattle.plain.specs.declared.Manner.{Manner}
use Rattle.plain.specs.declared.Manner.TheVariants.{Delivered, BoughtIn, Cash, Paired}
use Rattle.plain.specs.Book.{Book, no_position, position_of, nth}
use Rattle.plain.specs.Dealing.{manner_number, due, long_of, names, taken, taken_by, lowered, lowering}
use Rattle.plain.specs.Charging.{Charge}
use Rattle.plain.specs.Calls.{discharged}
use Rattle.plain.specs.Invariants.{Whole, Untouched, due_short, due_long, open_of, short_on, long_on, Even, DueLong, as_long, Deals}
use Rattle.plain.proofs.Numbered.{nth_at, place_nth, nth_number}

-- Lowered positions

pub length_lowering : (xs : List Piece) (ps : List Position) → length (lowering xs ps) ≡ length ps
unfolding lowering
length_lowering xs ps = length_number (lowered xs) 1 ps

pub lowering_at : (xs : List Piece) (ps : List Position) (i : ℕ) → i < length ps → get_or (lowering xs ps) i no_position ≡ lowered xs (suc i) (get_or ps i no_position)
unfolding lowering
lowering_at xs ps i h =
    let k : 1 + i ≡ suc i = omega arith in
    get_or_number (lowered xs) 1 ps i no_position no_position h ∙ ap (λ (n : ℕ). lowered xs n (get_or ps i no_position)) k

-- what is open of a position after a discharge is what was, less what the pieces take of it
pub left_open : (b : Book) (xs : List Piece) (cs : List Charge) (n : ℕ) → Within 1 (length b.positions) n
    → (position_of (discharged b xs cs) n).unsettled ≡ (position_of b n).unsettled - taken n xs
unfolding discharged lowering lowered
left_open b xs cs n h = ap (λ (p : Position). p.unsettled) (nth_number no_position (lowered xs) no_position b.positions n h)

-- a sum that lowering does not see
pub lowering_same : (f : Position → ℕ) (xs : List Piece) → ((k : ℕ) (p : Position) → f (lowered xs k p) ≡ f p) → (n : ℕ) (ps : List Position) → sum f (number (lowered xs) n ps) ≡ sum f ps
lowering_same f xs h n [] = refl
lowering_same f xs h n (p ∷ ps) = omega (arith, h n p, lowering_same f xs h (suc n) ps)

-- each manner is one of four
by_manners : (n : ℕ) (x : Piece) (m : Manner)
    → names n x
    ≡ only (eqb (manner_number m) 1) (names n x) + only (eqb (manner_number m) 2) (names n x) + only (eqb (manner_number m) 3) (names n x) + only (eqb (manner_number m) 4) (names n x)
by_manners n x Delivered = omega arith
by_manners n x BoughtIn = omega arith
by_manners n x Cash = omega arith
by_manners n x Paired = omega arith

pub taken_by_manner : (n : ℕ) (xs : List Piece) → taken n xs ≡ taken_by Delivered n xs + taken_by BoughtIn n xs + taken_by Cash n xs + taken_by Paired n xs
unfolding taken taken_by
taken_by_manner n [] = refl
taken_by_manner n (x ∷ xs) = omega (arith, by_manners n x x.manner, taken_by_manner n xs)

-- Sums over numbered positions

abbrev all : List ℕ → ℕ
all l = sum (λ n. n) l

number_zero : (f : ℕ → Position → ℕ) (n : ℕ) (ps : List Position) → ((k : ℕ) (p : Position) → n ≤ k → f k p ≡ 0) → all (number f n ps) ≡ 0
number_zero f n [] h = refl
number_zero f n (p ∷ ps) h = omega (arith, h n p (omega arith), number_zero f (suc n) ps (λ k q l. h k q (omega arith)))

number_add : (f g : ℕ → Position → ℕ) (n : ℕ) (ps : List Position) → all (number (λ k p. f k p + g k p) n ps) ≡ all (number f n ps) + all (number g n ps)
number_add f g n [] = refl
number_add f g n (p ∷ ps) = omega (arith, number_add f g (suc n) ps)

number_same : (f g : ℕ → Position → ℕ) (n : ℕ) (ps : List Position) → ((k : ℕ) (p : Position) → f k p ≡ g k p) → all (number f n ps) ≡ all (number g n ps)
number_same f g n [] h = refl
number_same f g n (p ∷ ps) h = omega (arith, h n p, number_same f g (suc n) ps h)

-- one position is met once
number_one : (test : Position → Bool) (j q n : ℕ) (ps : List Position) → n ≤ j → j < n + length ps → all (number (λ k p. only (test p) (only (eqb j k) q)) n ps) ≡ only (test (get_or ps (j - n) no_position)) q
number_one test j q n [] h l = absurd (omega arith)
number_one test j q n (p ∷ ps) h l = go (ask (eqb j n)) (λ h' l'. number_one test j q (suc n) ps h' l')
  where
    go : Said (eqb j n) → (suc n ≤ j → j < suc n + length ps → all (number (λ k p. only (test p) (only (eqb j k) q)) (suc n) ps) ≡ only (test (get_or ps (j - suc n) no_position)) q)
        → only (test p) (only (eqb j n) q) + all (number (λ k p. only (test p) (only (eqb j k) q)) (suc n) ps) ≡ only (test (get_or (p ∷ ps) (j - n) no_position)) q
    go (passed e) ih =
        let here : j - n ≡ 0 = omega (arith, eqb-true j n e) in
        let rest = number_zero (λ k p. only (test p) (only (eqb j k) q)) (suc n) ps (λ k r m. rw (ne_eqb j k (omega (arith, eqb-true j n e))) (only_zero (test r))) in
        rw (e, here) (omega (arith, rest))
    go (failed e) ih =
        let other : j ≢ n = eqb-false j n e in
        let next : j - n ≡ suc (j - suc n) = omega arith in
        rw (e, next, only_zero (test p)) (omega (arith, ih (omega arith) (omega arith)))

number_named : (test : Position → Bool) (j q : ℕ) (ps : List Position) → Within 1 (length ps) j → all (number (λ k p. only (test p) (only (eqb j k) q)) 1 ps) ≡ only (test (nth no_position ps j)) q
number_named test j q ps h =
    rw (nth_at no_position ps j h.above) (number_one test j q 1 ps h.above (omega (arith, h.below)))

module _ (test : Position → Bool) (ps : List Position) where
  -- what a piece takes from the positions that pass the test
  abbrev weight : Piece → ℕ
  weight x = only (test (nth no_position ps x.short)) x.quantity + only (test (nth no_position ps x.long)) x.quantity

  Inside : Piece → Type 0
  Inside x = Within 1 (length ps) x.short × Within 1 (length ps) x.long

  one_piece : (x : Piece) → Within 1 (length ps) x.short → Within 1 (length ps) x.long → all (number (λ k p. only (test p) (names k x)) 1 ps) ≡ weight x
  unfolding names
  one_piece x s l =
      omega (
        arith,
        number_same (λ k p. only (test p) (only (eqb x.short k) x.quantity + only (eqb x.long k) x.quantity))
            (λ k p. only (test p) (only (eqb x.short k) x.quantity) + only (test p) (only (eqb x.long k) x.quantity)) 1 ps
            (λ k p. only_add (test p) (only (eqb x.short k) x.quantity) (only (eqb x.long k) x.quantity)),
        number_add (λ k p. only (test p) (only (eqb x.short k) x.quantity)) (λ k p. only (test p) (only (eqb x.long k) x.quantity)) 1 ps,
        number_named test x.short x.quantity ps s,
        number_named test x.long x.quantity ps l,
      )

  pub weighed : (xs : List Piece) → All (λ x. Within 1 (length ps) x.short × Within 1 (length ps) x.long) xs → all (number (λ k p. only (test p) (taken k xs)) 1 ps) ≡ sum weight xs
  unfolding taken
  weighed [] h = number_zero (λ k p. only (test p) 0) 1 ps (λ k p l. only_zero (test p))
  weighed (x ∷ xs) h =
      omega (
        arith,
        number_same (λ k p. only (test p) (names k x + sum (names k) xs)) (λ k p. only (test p) (names k x) + only (test p) (sum (names k) xs)) 1 ps
            (λ k p. only_add (test p) (names k x) (sum (names k) xs)),
        number_add (λ k p. only (test p) (names k x)) (λ k p. only (test p) (sum (names k) xs)) 1 ps,
        one_piece x h.0.0 h.0.1,
        weighed xs h.1,
      )

-- what is open after pieces that fit, and what they took, is what was open
falls_by : (test : Position → Bool) (xs : List Piece) → ((k : ℕ) (p : Position) → test (lowered xs k p) ≡ test p) → (n : ℕ) (ps : List Position)
    → ((i : ℕ) → i < length ps → taken (n + i) xs ≤ (get_or ps i no_position).unsettled)
    → open_of test (number (lowered xs) n ps) + all (number (λ k p. only (test p) (taken k xs)) n ps) ≡ open_of test ps
falls_by test xs t n [] h = refl
falls_by test xs t n (p ∷ ps) h =
    let z : n + 0 ≡ n = omega arith in
    let l : taken n xs ≤ p.unsettled = rw z at (h 0 (omega arith)) in
    let left : (lowered xs n p).unsettled ≡ p.unsettled - taken n xs = unfold lowered in refl in
    omega (
      arith,
      only_sub (test p) p.unsettled (taken n xs) l,
      ap (λ (b : Bool). only b (lowered xs n p).unsettled) (t n p),
      ap (λ (x : ℕ). only (test p) x) left,
      falls_by test xs t (suc n) ps (λ i k. let e : suc n + i ≡ n + suc i = omega arith in rw e (h (suc i) (omega arith))),
    )

-- The pieces of a discharge

module _ {b : Book} {m : Manner} {n q : ℕ} {xs : List Piece} (f : Deals b m n q xs) where
  -- no long is the short
  pub long_other : (k : ℕ) → DueLong b (position_of b n).security k → k ≢ n
  long_other k l e =
      true≢false (sym f.dealable.short ∙ ap (λ (j : ℕ). (position_of b j).short) (sym e) ∙ l.long)

  both_sides : All (λ x. (x.short ≡ n) × DueLong b (position_of b n).security x.long) xs
  both_sides = all_both (λ x. x.short ≡ n) (λ x. DueLong b (position_of b n).security x.long) xs f.shorts f.longs

  -- the short gives all of it
  pub taken_short : taken n xs ≡ q
  unfolding taken names
  taken_short =
      sum_same_all (λ x. only (eqb x.short n) x.quantity + only (eqb x.long n) x.quantity) (λ x. x.quantity) xs
      (all_of (λ x. (x.short ≡ n) × DueLong b (position_of b n).security x.long) (λ x. only (eqb x.short n) x.quantity + only (eqb x.long n) x.quantity ≡ x.quantity) xs
      (λ x h. rw (eq-eqb x.short n h.0, ne_eqb x.long n (long_other x.long h.1)) (add-zero x.quantity)) both_sides)
      ∙ f.total

  -- any other position gives what it gives as a long
  pub taken_other : (k : ℕ) → k ≢ n → taken k xs ≡ as_long k xs
  unfolding taken names
  taken_other k d =
      sum_same_all (λ x. only (eqb x.short k) x.quantity + only (eqb x.long k) x.quantity) (λ x. only (eqb x.long k) x.quantity) xs
      (all_of (λ x. x.short ≡ n) (λ x. only (eqb x.short k) x.quantity + only (eqb x.long k) x.quantity ≡ only (eqb x.long k) x.quantity) xs
      (λ x h. let s : x.short ≢ k = λ e. d (sym e ∙ h) in rw (ne_eqb x.short k s) (native.Mathlib.Nat.zero-add _)) f.shorts)

  -- a position that is no due long of the security gives nothing as a long
  pub no_long : (k : ℕ) → (DueLong b (position_of b n).security k → ⊥) → as_long k xs ≡ 0
  no_long k d =
      sum_same_all (λ x. only (eqb x.long k) x.quantity) (λ x. 0) xs
      (all_of (λ x. DueLong b (position_of b n).security x.long) (λ x. only (eqb x.long k) x.quantity ≡ 0) xs
      (λ x h. rw (ne_eqb x.long k (λ e. d (subst (λ (j : ℕ). DueLong b (position_of b n).security j) e h)))) f.longs)
      ∙ sum_zero xs

  at_place : (i : ℕ) → n ≡ suc i → position_of b n ≡ get_or b.positions i no_position
  at_place i e = place_nth no_position b.positions i n e

  pub taken_fits : (i : ℕ) → i < length b.positions → taken (suc i) xs ≤ (get_or b.positions i no_position).unsettled
  taken_fits i h = go (ask (eqb n (suc i)))
    where
      go : Said (eqb n (suc i)) → taken (suc i) xs ≤ (get_or b.positions i no_position).unsettled
      go (passed e) =
          let same : n ≡ suc i = eqb-true n (suc i) e in
          omega (arith, taken_short, f.dealable.enough, ap (λ (k : ℕ). taken k xs) same, ap (λ (p : Position). p.unsettled) (at_place i same))
      go (failed e) =
          let other : suc i ≢ n = λ d. eqb-false n (suc i) e (sym d) in
          omega (arith, taken_other (suc i) other, f.fits i h)

  -- a position that is not there, or is not due, gives nothing
  pub taken_past : (k : ℕ) → length b.positions < k → taken k xs ≡ 0
  taken_past k h =
      taken_other k (omega (arith, f.dealable.held.below)) ∙ no_long k (λ l. omega (arith, l.held.below))

  pub taken_early : (i : ℕ) → i < length b.positions → due b.day (get_or b.positions i no_position) ≡ false → taken (suc i) xs ≡ 0
  taken_early i h e =
      taken_other (suc i) (λ d. true≢false (sym f.dealable.is_due ∙ ap (λ (p : Position). due b.day p) (at_place i (sym d)) ∙ e))
      ∙ no_long (suc i)
      (λ l. true≢false (sym l.is_due ∙ e))

  -- the manner decides which figure rises
  pub taken_by_lem : (w : Manner) (k : ℕ) → taken_by w k xs ≡ only (eqb (manner_number m) (manner_number w)) (taken k xs)
  unfolding taken taken_by
  taken_by_lem w k =
      sum_same_all (λ x. only (eqb (manner_number x.manner) (manner_number w)) (names k x)) (λ x. only (eqb (manner_number m) (manner_number w)) (names k x)) xs
      (all_of (λ x. x.manner ≡ m) (λ x. only (eqb (manner_number x.manner) (manner_number w)) (names k x) ≡ only (eqb (manner_number m) (manner_number w)) (names k x)) xs
      (λ x h. ap (λ (v : Manner). only (eqb (manner_number v) (manner_number w)) (names k x)) h) f.manners)
      ∙ sym (only_sum (eqb (manner_number m) (manner_number w)) (names k) xs)

  within_table : All (λ x. Within 1 (length b.positions) x.short × Within 1 (length b.positions) x.long) xs
  within_table =
      all_of (λ x. (x.short ≡ n) × DueLong b (position_of b n).security x.long) (λ x. Within 1 (length b.positions) x.short × Within 1 (length b.positions) x.long) xs
      (λ x h. (subst (λ (k : ℕ). Within 1 (length b.positions) k) (sym h.0) f.dealable.held, h.1.held)) both_sides

  -- what is open of the positions that pass a test falls by the discharge, as its short and its longs pass
  pub falls : (test : Position → Bool) (s l : Bool) → ((k : ℕ) (p : Position) → test (lowered xs k p) ≡ test p) → test (position_of b n) ≡ s → ((k : ℕ) → DueLong b (position_of b n).security k → test (position_of b k) ≡ l)
      → open_of test (lowering xs b.positions) + (only s q + only l q) ≡ open_of test b.positions
  unfolding lowering
  falls test s l static at_short at_long =
      omega (
        arith,
        falls_by test xs static 1 b.positions (λ i h. let k : 1 + i ≡ suc i = omega arith in rw k (taken_fits i h)),
        weighed test b.positions xs within_table,
        sum_same_all (λ x. only (test (position_of b x.short)) x.quantity + only (test (position_of b x.long)) x.quantity) (λ x. only s x.quantity + only l x.quantity) xs
            (all_of (λ x. (x.short ≡ n) × DueLong b (position_of b n).security x.long) (λ x. only (test (position_of b x.short)) x.quantity + only (test (position_of b x.long)) x.quantity ≡ only s x.quantity + only l x.quantity) xs
            (λ x h. rw (ap (λ (k : ℕ). test (position_of b k)) h.0 ∙ at_short, at_long x.long h.1)) both_sides),
        sum_add (λ x. only s x.quantity) (λ x. only l x.quantity) xs,
        only_sum s (λ x. x.quantity) xs,
        only_sum l (λ x. x.quantity) xs,
        ap (λ (k : ℕ). only s k) f.total,
        ap (λ (k : ℕ). only l k) f.total,
      )

  -- the shorts give the whole quantity
  pub shorts_fall : open_of (λ p. p.short) (lowering xs b.positions) + q ≡ open_of (λ p. p.short) b.positions
  unfolding lowered
  shorts_fall = omega (arith, falls (λ p. p.short) true false (λ k p. refl) f.dealable.short (λ k l. l.long))

  -- The parts of the invariant

  pub whole_lowered : All Whole b.positions → All Whole (lowering xs b.positions)
  whole_lowered h =
      all_places Whole (lowering xs b.positions) no_position
      (λ i l.
      let k : i < length b.positions = omega (arith, length_lowering xs b.positions) in
      subst Whole (sym (lowering_at xs b.positions i k)) (whole_at (get_or b.positions i no_position) (suc i) (taken_fits i k) (all_at Whole b.positions i no_position k h)))
    where
      whole_at : (p : Position) (k : ℕ) → taken k xs ≤ p.unsettled → Whole p → Whole (lowered xs k p)
      whole_at p k l w = unfold lowered in omega (arith, w, taken_by_manner k xs)

  pub untouched_lowered : All (Untouched b.day) b.positions → All (Untouched b.day) (lowering xs b.positions)
  unfolding due
  untouched_lowered h =
      all_places (Untouched b.day) (lowering xs b.positions) no_position
      (λ i l.
      let k : i < length b.positions = omega (arith, length_lowering xs b.positions) in
      subst (Untouched b.day) (sym (lowering_at xs b.positions i k))
      (λ e. untouched_at (get_or b.positions i no_position) (suc i) e (taken_early i k (lt-leb _ _ (early (get_or b.positions i no_position) (suc i) e))) (all_at (Untouched b.day) b.positions i no_position k h)))
    where
      early : (p : Position) (k : ℕ) → b.day < (lowered xs k p).settlement.0 → b.day < p.settlement.0
      early p k e = unfold lowered in e

      untouched_at : (p : Position) (k : ℕ) → b.day < (lowered xs k p).settlement.0 → taken k xs ≡ 0 → Untouched b.day p → (lowered xs k p).unsettled ≡ (lowered xs k p).netted
      untouched_at p k e z u = unfold lowered in omega (arith, z, u (early p k e))

  pub even_lowered : Even b.day b.positions → Even b.day (lowering xs b.positions)
  unfolding due long_of lowered
  even_lowered h =
      record {
        opened = λ s.
            omega (
              arith,
              h.opened s,
              falls (due_short b.day s) (eqb sec s) false (λ k p. refl) (rw (f.dealable.short, f.dealable.is_due) (mathlib.Core.Bool.and-true (eqb sec s))) (λ k l. rw l.long),
              falls (due_long b.day s) false (eqb sec s) (λ k p. refl) (rw f.dealable.short) (λ k l. rw (l.long, l.same, l.is_due) (mathlib.Core.Bool.and-true (eqb sec s))),
            );
        made = λ s d. unfold lowering in (lowering_same (λ p. only (short_on d s p) p.netted) xs (λ k p. refl) 1 b.positions ∙ h.made s d ∙ sym (lowering_same (λ p. only (long_on d s p) p.netted) xs (λ k p. refl) 1 b.positions));
      }
    where
      sec : ℕ
      sec = (position_of b n).security
