-- Document 01, 'Discharge and pieces': "lowest S first, then lowest number" is the order of the table, since delivery days never fall along it.
use Prim.Native.Nat.{ℕ, zero, suc, ◌+◌, ◌≤◌, ◌<◌}
use native.Mathlib.Omega.{arith}
use mathlib.Core.Path.{◌≡◌, refl, ap, ◌∙◌}
use mathlib.Core.Logic.{◌≢◌}
use mathlib.Core.List.{List, [], ◌∷◌, ◌++◌}
use mathlib.Core.Bool.{Bool, true, false, ◌&&◌}
use lib.Dec.{ltb, leb, eqb, leb-suc-suc}
use borrow.Author.Tests.{lt-ltb, le-ltb, ne_eqb, eqb-true, eqb-false}
use Rattle.laws.specs.Lists.{keep, each, range, number, All}
use Rattle.laws.specs.Asked.{Said, passed, failed, ask}
use Rattle.laws.specs.Listed.{each_empty}
use Rattle.laws.specs.Alls.{all_append, all_of, all_number}
use Rattle.plain.specs.declared.Position.{Position}
use Rattle.plain.specs.declared.Piece.{Piece}
use Rattle.plain.specs.Book.{Book}
use Rattle.plain.specs.Netting.{keys, netted}
use Rattle.plain.specs.Dealing.{due, long_of, Taker, longs_on, takers, lowered, lowering}
use Rattle.plain.specs.Calls.{Call, done}
use Rattle.plain.specs.Refusals.{refusal}
use Rattle.plain.specs.Histories.{event_of}
use Rattle.plain.specs.Invariants.{Fair, Rising}
use Rattle.plain.proofs.Netted.{New, netted_new}
use Rattle.plain.proofs.Kept.{done_steps}

-- RISING DAYS ARE KEPT

-- what settles by a day stands before what settles after it
rising_append : (d : ℕ) (ps qs : List Position) → Rising ps → Rising qs → All (λ p. p.settlement.0 ≤ d) ps → All (λ q. d ≤ q.settlement.0) qs → Rising (ps ++ qs)
rising_append d [] qs r s h k = s
rising_append d (p ∷ ps) qs r s h k =
    (all_append (λ q. p.settlement.0 ≤ q.settlement.0) ps qs r.0 later, rising_append d ps qs r.1 s h.1 k)
  where
    later : All (λ q. p.settlement.0 ≤ q.settlement.0) qs
    later = all_of (λ q. d ≤ q.settlement.0) (λ q. p.settlement.0 ≤ q.settlement.0) qs (λ q l. omega (arith, h.0)) k

-- positions of one close settle on one day
rising_on : (d : ℕ) (ps : List Position) → All (λ p. p.settlement.0 ≡ d) ps → Rising ps
rising_on d [] h = tt
rising_on d (p ∷ ps) h =
    (all_of (λ q. q.settlement.0 ≡ d) (λ q. p.settlement.0 ≤ q.settlement.0) ps (λ q e. omega (arith, h.0)) h.1, rising_on d ps h.1)

rising_number : (xs : List Piece) (n : ℕ) (ps : List Position) → Rising ps → Rising (number (lowered xs) n ps)
unfolding lowered
rising_number xs n [] r = tt
rising_number xs n (p ∷ ps) r =
    (all_number (λ q. p.settlement.0 ≤ q.settlement.0) (lowered xs) (λ q. p.settlement.0 ≤ q.settlement.0) (suc n) ps (λ k q l. l) r.0, rising_number xs (suc n) ps r.1)

pub lowering_rising : (xs : List Piece) (ps : List Position) → Rising ps → Rising (lowering xs ps)
unfolding lowering
lowering_rising xs ps r = rising_number xs 1 ps r

-- "A position's delivery day S is the trade day plus 2": all older positions settle by the day after today
pub close_rising : (b : Book) → All (Fair b.opening.register.count b.day) b.positions → Rising b.positions → Rising (b.positions ++ netted b.day b.trades (keys b.opening.register.count))
close_rising b h r =
    rising_append (b.day + 1) b.positions fresh r (rising_on (b.day + 2) fresh on_day)
    (all_of (Fair b.opening.register.count b.day) (λ p. p.settlement.0 ≤ b.day + 1) b.positions (λ p f. f.settlement) h)
    (all_of (λ p. p.settlement.0 ≡ b.day + 2) (λ p. b.day + 1 ≤ p.settlement.0) fresh (λ p e. omega arith) on_day)
  where
    fresh : List Position
    fresh = netted b.day b.trades (keys b.opening.register.count)

    on_day : All (λ p. p.settlement.0 ≡ b.day + 2) fresh
    on_day = all_of (New b.day) (λ p. p.settlement.0 ≡ b.day + 2) fresh (λ p f. f.settlement) (netted_new b.day b.trades (keys b.opening.register.count))

pub done_rising : (b : Book) (c : Call) → refusal b c ≡ 0 → All (Fair b.opening.register.count b.day) b.positions → Rising b.positions → Rising (done b (event_of c)).positions
done_rising b c e h r =
    done_steps (λ x. Rising x.positions) b c e
    (record {
      kept = r;
      traded = λ t k. r;
      priced = λ p k. r;
      lowers = λ xs. lowering_rising xs b.positions r;
      closed = λ k. close_rising b h r;
    })

-- THE ORDER OF THE TABLE

-- the due longs of a security in the order of the table, whose positions are numbered from n
unfoldable pub longs_from : ℕ → ℕ → ℕ → List Position → List Taker
longs_from day security n [] = []
longs_from day security n (p ∷ ps) =
    keep (long_of security p && due day p) (record { number = n; unsettled = p.unsettled })
    (longs_from day security (suc n) ps)

-- An element x of day s, and for each day a list that is empty before day s: by days, x comes first.
module _ {A : Type 0} (s : ℕ) (x : A) (f : ℕ → List A) where
  -- s is none of the days
  missed : (a n : ℕ) → s < a → each (λ d. keep (eqb s d) x (f d)) (range a n) ≡ each f (range a n)
  missed a zero h = refl
  missed a (suc n) h = simp (ne_eqb s a (omega arith)) (ap (λ (l : List A). f a ++ l) (missed (suc a) n (omega arith)))

  foremost : ((d : ℕ) → d < s → f d ≡ []) → (a n : ℕ) → a ≤ s → each (λ d. keep (eqb s d) x (f d)) (range a n) ≡ keep (ltb s (a + n)) x (each f (range a n))
  foremost none a zero h = simp (le-ltb s (a + 0) (omega arith))
  foremost none a (suc n) h = go (ask (eqb s a)) (λ l. foremost none (suc a) n l)
    where
      go : Said (eqb s a) → (suc a ≤ s → each (λ d. keep (eqb s d) x (f d)) (range (suc a) n) ≡ keep (ltb s (suc a + n)) x (each f (range (suc a) n)))
          → keep (eqb s a) x (f a) ++ each (λ d. keep (eqb s d) x (f d)) (range (suc a) n) ≡ keep (ltb s (a + suc n)) x (f a ++ each f (range (suc a) n))
      go (passed e) ih =
          simp (e, lt-ltb s (a + suc n) (omega (arith, eqb-true s a e)))
          (ap (λ (l : List A). x ∷ f a ++ l) (missed (suc a) n (omega (arith, eqb-true s a e))))
      go (failed e) ih =
          let other : s ≢ a = eqb-false s a e in
          let same : suc a + n ≡ a + suc n = omega arith in
          simp (e, none a (omega arith)) (ih (omega arith) ∙ ap (λ (m : ℕ). keep (ltb s m) x (each f (range (suc a) n))) same)

  -- x may be kept or not
  foremost_of : (kept : Bool) → ((d : ℕ) → d < s → f d ≡ []) → (day : ℕ) → each (λ d. keep (kept && eqb s d) x (f d)) (range 0 (suc day)) ≡ keep (kept && leb s day) x (each f (range 0 (suc day)))
  foremost_of true none day =
      let after : 0 + suc day ≡ suc day = omega arith in
      let until : ltb s (0 + suc day) ≡ leb s day = ap (λ (n : ℕ). ltb s n) after ∙ leb-suc-suc s day in
      foremost none 0 (suc day) (omega arith) ∙ ap (λ (t : Bool). keep t x (each f (range 0 (suc day)))) until
  foremost_of false none day = refl

-- no long of an earlier day
none_before : (d security n : ℕ) (ps : List Position) → All (λ p. d < p.settlement.0) ps → longs_on d security n ps ≡ []
unfolding longs_on
none_before d security n [] h = refl
none_before d security n (p ∷ ps) h = skip (long_of security p) (ne_eqb p.settlement.0 d (omega (arith, h.0))) (none_before d security (suc n) ps h.1)
  where
    skip : (kept : Bool) → eqb p.settlement.0 d ≡ false → longs_on d security (suc n) ps ≡ [] → keep (kept && eqb p.settlement.0 d) (record { number = n; unsettled = p.unsettled }) (longs_on d security (suc n) ps) ≡ []
    skip true e ih = simp e ih
    skip false e ih = ih

longs_in_order : (day security n : ℕ) (ps : List Position) → Rising ps → each (λ d. longs_on d security n ps) (range 0 (suc day)) ≡ longs_from day security n ps
unfolding longs_on longs_from due
longs_in_order day security n [] r = each_empty (range 0 (suc day))
longs_in_order day security n (p ∷ ps) r =
    foremost_of p.settlement.0 (record { number = n; unsettled = p.unsettled }) (λ d. longs_on d security (suc n) ps) (long_of security p) earlier day
    ∙ ap (λ (l : List Taker). keep (long_of security p && leb p.settlement.0 day) (record { number = n; unsettled = p.unsettled }) l) (longs_in_order day security (suc n) ps r.1)
  where
    earlier : (d : ℕ) → d < p.settlement.0 → longs_on d security (suc n) ps ≡ []
    earlier d l =
        none_before d security (suc n) ps
        (all_of (λ q. p.settlement.0 ≤ q.settlement.0) (λ q. d < q.settlement.0) ps (λ q k. omega arith) r.0)

-- in a rising table the due longs stand in the order in which the paper deals out
pub takers_in_order : (day security : ℕ) (ps : List Position) → Rising ps → takers day security ps ≡ longs_from day security 1 ps
unfolding takers
takers_in_order day security ps r = longs_in_order day security 1 ps r
