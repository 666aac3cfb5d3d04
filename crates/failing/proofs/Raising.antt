-- Positions that become late with a new day: the words and counts over the first of them, one position after the other.
use Prim.Native.Nat.{ℕ, zero, suc, ◌+◌, ◌≤◌, ◌<◌}
use native.Mathlib.Numerals.{add-one}
use native.Mathlib.Omega.{arith}
use mathlib.Core.Path.{◌≡◌, refl, ap, sym, ◌∙◌}
use mathlib.Core.List.{List, [], ◌∷◌}
use mathlib.Core.Bool.{true, false, ◌&&◌}
use lib.Dec.{eqb, ltb}
use lib.ListN.{length, get_or, take, length-take}
use lib.Seq.{take-suc}
use borrow.Author.Tests.{ltb-true}
use Rattle.laws.specs.Asked.{and_left, and_right}
use Rattle.laws.specs.Lists.{sum}
use Rattle.laws.specs.Listed.{sum_append}
use Rattle.laws.specs.Sums.{only_le, sum_le, sum_length}
use Rattle.laws.specs.Alls.{all_at}
use Rattle.plain.specs.declared.Position.{Position}
use Rattle.plain.specs.Book.{no_position}
use Rattle.plain.specs.Invariants.{Rising}
use Rattle.plain.specs.Auction.{late}
use Rattle.tables.specs.Late.{LateBefore}
use Rattle.failing.specs.Counts.{late_short, late_shorts, Counted, OneMore}
use Rattle.failing.proofs.Counting.{counted_same}
use Rattle.failing.proofs.Shorts.{is_late, not_open, not_late, stays_late}

-- the delivery days of later positions
rising_at : (ps : List Position) (i j : ℕ) → Rising ps → i ≤ j → j < length ps → (get_or ps i no_position).settlement.0 ≤ (get_or ps j no_position).settlement.0
rising_at [] i j r h l = absurd (omega arith)
rising_at (p ∷ ps) zero zero r h l = omega arith
rising_at (p ∷ ps) zero (suc j) r h l = all_at (λ q. p.settlement.0 ≤ q.settlement.0) ps j no_position (omega arith) r.0
rising_at (p ∷ ps) (suc i) zero r h l = absurd (omega arith)
rising_at (p ∷ ps) (suc i) (suc j) r h l = rising_at ps i j r.1 (omega arith) (omega arith)

-- a count is a count over the positions before the place
module _ (day later s m : ℕ) (h : day ≤ later) where
  counts_before : (ps : List Position) (place : ℕ) → ((j : ℕ) → j < place → (get_or ps j no_position).settlement.0 < day) → ((j : ℕ) → place ≤ j → j < length ps → day ≤ (get_or ps j no_position).settlement.0)
      → sum (late_short later s m) (take place ps) ≡ sum (late_short day s m) ps
  counts_before [] zero b a = refl
  counts_before [] (suc place) b a = refl
  counts_before (p ∷ ps) zero b a =
      omega (arith, not_late day s m p (a 0 (omega arith) (omega arith)), counts_before ps zero (λ j l. absurd (omega arith)) (λ j k l. a (suc j) (omega arith) (omega arith)))
  counts_before (p ∷ ps) (suc place) b a =
      omega (arith, stays_late day later s m p (b 0 (omega arith)) h, counts_before ps place (λ j l. b (suc j) (omega arith)) (λ j k l. a (suc j) (omega arith) (omega arith)))

module _ (day later : ℕ) (ps : List Position) (place : ℕ) (words counts : List ℕ) (b : LateBefore day ps place) (h : day ≤ later) where
  before_same : (s m : ℕ) → late_shorts later (take place ps) s m ≡ late_shorts day ps s m
  unfolding late_shorts
  before_same s m = counts_before day later s m h ps place b.earlier b.later

  pub counted_before : Counted day ps words counts → Counted later (take place ps) words counts
  counted_before c = counted_same day later ps (take place ps) words counts c before_same

  pub counted_whole : Counted later (take place ps) words counts → Counted day ps words counts
  counted_whole c = counted_same later day (take place ps) ps words counts c (λ s m. sym (before_same s m))

-- Over the first i positions and the next

module _ (day : ℕ) (ps : List Position) (i : ℕ) where
  pub few_counted : (s m : ℕ) → late_shorts day (take i ps) s m ≤ i
  unfolding late_shorts
  few_counted s m =
      omega (arith, sum_le (late_short day s m) (λ p. 1) (take i ps) (λ p. only_le (late day s p && eqb p.member m) 1), sum_length (take i ps), length-take i ps)

  module _ (p : Position) (inside : i < length ps) (at : p ≡ get_or ps i no_position) (now-late : p.settlement.0 < day) where
    one_on : (s m : ℕ) → late_shorts day (take (i + 1) ps) s m ≡ late_shorts day (take i ps) s m + late_short day s m p
    unfolding late_shorts
    one_on s m =
        rw (add-one i, take-suc ps i no_position inside, at)
        (omega (arith, sum_append (late_short day s m) (take i ps) (get_or ps i no_position ∷ [])))

    pub one_more : p.short && ltb 0 p.unsettled ≡ true → OneMore day (take i ps) day (take (i + 1) ps) p.security p.member
    unfolding OneMore
    one_more e s m =
        one_on s m
        ∙ ap (λ (n : ℕ). late_shorts day (take i ps) s m + n) (is_late day s m p (and_left _ _ e) (ltb-true 0 p.unsettled (and_right p.short _ e)) now-late)

    pub none_more : p.short && ltb 0 p.unsettled ≡ false → (words counts : List ℕ) → Counted day (take i ps) words counts → Counted day (take (i + 1) ps) words counts
    none_more e words counts h =
        counted_same day day (take i ps) (take (i + 1) ps) words counts h (λ s m. omega (arith, one_on s m, not_open day s m p e))

-- where the walk stops
pub late_before_end : (day : ℕ) (ps : List Position) (i : ℕ) → Rising ps → i ≤ length ps → ((j : ℕ) → j < i → (get_or ps j no_position).settlement.0 < day) → (i < length ps → day ≤ (get_or ps i no_position).settlement.0) → LateBefore day ps i
late_before_end day ps i r h before here =
    record {
      inside = h;
      earlier = before;
      later = λ j k l. omega (arith, here (omega arith), rising_at ps i j r k l);
    }
