-- `failing::with_late_short` meets its contract: the count and the word that it stores are those of one late open short more.
use Prim.Native.Nat.{ℕ}
use Rattle.plain.proofs.Numbered.{nth_at}
use Rattle.failing.proofs.Counting.{counted_more}
use Rattle.failing.proofs.with_late_short.Goals as goal

pub returns : goal.returns
returns c =
    let h = c.requires.0 in
    λ day next ps qs counted more. rw c.count_place-place.ensures (counted_more day next ps qs _ _ more _ _ counted h.within h.below _ (rw (nth_at {A = ℕ} 0 _ _ h.within.above) c.with_member.ensures))
