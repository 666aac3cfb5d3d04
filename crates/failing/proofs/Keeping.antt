-- The words and counts of a new book, and of a table that grows by positions that are not late.
use Prim.Native.Nat.{ℕ, ◌+◌, ◌-◌, ◌≤◌, ◌<◌}
use native.Mathlib.Omega.{arith}
use mathlib.Core.Path.{◌≡◌}
use mathlib.Core.List.{List, [], ◌++◌}
use lib.Dec.{ltb, lit<}
use lib.ListN.{length, get_or, replicate, length-replicate, get_or-replicate, length-append, get_or-append}
use lib.Seq.{get_or-append-add}
use borrow.Author.Tests.{ltb-true, ltb-false}
use Rattle.laws.specs.Limits.{COUNT_CELLS}
use Rattle.laws.specs.Asked.{Said, passed, failed, ask}
use Rattle.laws.specs.Lists.{All}
use Rattle.laws.specs.Listed.{sum_append}
use Rattle.laws.specs.Sums.{sum_same_all, sum_zero}
use Rattle.laws.specs.Alls.{all_of, all_at}
use Rattle.plain.specs.declared.Position.{Position}
use Rattle.plain.specs.Book.{no_position}
use Rattle.plain.specs.Auction.{failing}
use Rattle.failing.specs.Members.{FailingWord}
use Rattle.failing.proofs.Bits.{bit_zero}
use Rattle.tables.specs.Late.{LateBefore}
use Rattle.failing.specs.Counts.{late_short, late_shorts, count_place, Counted}
use Rattle.failing.proofs.Counting.{counted_same}
use Rattle.failing.proofs.Shorts.{not_late}
use Rattle.plain.proofs.Numbered.{nth_replicate}

-- A new book

no_word : (day s : ℕ) → FailingWord day [] s 0
unfolding failing
no_word day s = record { fits = lit< tt; bits = bit_zero }

pub counted_new : (day : ℕ) → Counted day [] (replicate 32 0) (replicate COUNT_CELLS 0)
unfolding late_shorts
counted_new day =
    record {
      securities = length-replicate {A = ℕ} 32 0;
      places = length-replicate {A = ℕ} COUNT_CELLS 0;
      failing = λ s w. rw (nth_replicate {A = ℕ} 0 32 s 0 w) (no_word day s);
      counted = λ s m w l. get_or-replicate {A = ℕ} COUNT_CELLS (count_place s m) 0 0 (omega (arith, w.above, w.below));
    }

pub late_before_new : (day : ℕ) → LateBefore day [] 0
late_before_new day = record { inside = omega arith; earlier = λ j l. absurd (omega arith); later = λ j k l. absurd (omega arith) }

-- Positions that are not late

module _ (day : ℕ) (ps more : List Position) (early : All (λ p. day ≤ p.settlement.0) more) where
  grown_same : (s m : ℕ) → late_shorts day (ps ++ more) s m ≡ late_shorts day ps s m
  unfolding late_shorts
  grown_same s m =
      omega (
        arith,
        sum_append (late_short day s m) ps more,
        sum_same_all (late_short day s m) (λ p. 0) more (all_of (λ p. day ≤ p.settlement.0) (λ p. late_short day s m p ≡ 0) more (λ p h. not_late day s m p h) early),
        sum_zero more,
      )

  pub counted_grown : (words counts : List ℕ) → Counted day ps words counts → Counted day (ps ++ more) words counts
  counted_grown words counts h = counted_same day day ps (ps ++ more) words counts h grown_same

  later_at : (place : ℕ) → LateBefore day ps place → (j : ℕ) → place ≤ j → j < length (ps ++ more) → Said (ltb j (length ps)) → day ≤ (get_or (ps ++ more) j no_position).settlement.0
  later_at place h j k l (passed e) = rw (get_or-append ps more no_position j (ltb-true j (length ps) e)) (h.later j k (ltb-true j (length ps) e))
  later_at place h j k l (failed e) =
      let past : length ps ≤ j = ltb-false j (length ps) e in
      let split : j ≡ length ps + (j - length ps) = omega arith in
      rw (split, get_or-append-add ps more (j - length ps) no_position) (all_at (λ p. day ≤ p.settlement.0) more (j - length ps) no_position (omega (arith, length-append ps more)) early)

  pub late_before_grown : (place : ℕ) → LateBefore day ps place → LateBefore day (ps ++ more) place
  late_before_grown place h =
      record {
        inside = omega (arith, h.inside, length-append ps more);
        earlier = λ j l. rw (get_or-append ps more no_position j (omega (arith, h.inside))) (h.earlier j l);
        later = λ j k l. later_at place h j k l (ask (ltb j (length ps)));
      }
