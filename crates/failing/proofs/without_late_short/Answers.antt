-- `failing::without_late_short` meets its contract: the count and the word that it stores are those of one late open short less.
use Prim.Native.Nat.{ℕ, ◌-◌}
use native.Mathlib.Omega.{arith}
use mathlib.Core.Path.{◌≡◌}
use mathlib.Core.List.{List}
use lib.ListN.{get_or, set, length-set}
use lib.Seq.{get_or-set_same}
use Rattle.plain.proofs.Numbered.{nth_at}
use Rattle.failing.specs.Counts.{HasCount, count_place}
use Rattle.failing.proofs.Counting.{counted_less, counted_last}
use Rattle.failing.proofs.without_late_short.Goals as goal

-- the count that is stored is what the test reads
stored : (words counts : List ℕ) (security member : ℕ) → HasCount words counts security member
    → (let place = count_place security member in let left = get_or counts place 0 - 1 in get_or (set counts place left) place 0 ≡ left)
stored words counts security member h =
    get_or-set_same counts _ _ 0 (omega (arith, h.places, h.within.above, h.within.below, h.below))

pub returns-then-counts-place-gt0 : goal.returns-then-counts-place-gt0
returns-then-counts-place-gt0 c =
    let h = c.requires.0 in
    let left = rw c.count_place-place.ensures at c.if-counts-place-gt0.true in
    (λ day ps qs counted more. rw c.count_place-place.ensures (counted_less day ps qs _ _ more _ _ counted h.within h.below (omega (arith, left, stored _ _ _ _ h))), simp length-set h.places)

pub returns : goal.returns
returns c =
    let h = c.requires.0 in
    let left = rw c.count_place-place.ensures at c.if-counts-place-gt0.false in
    (λ day ps qs counted more. rw c.count_place-place.ensures (counted_last day ps qs _ _ more _ _ counted h.within h.below (omega (arith, left, stored _ _ _ _ h)) _ (rw (nth_at {A = ℕ} 0 _ _ h.within.above) c.without_member.ensures)), simp length-set h.places)
