use Prim.Native.Nat.{◌-◌, ◌≤◌}
use native.Mathlib.Omega.{arith}
use mathlib.Core.Path.{◌≡◌}
use lib.ListN.{length}
use borrow.Author.Rules.{rules}
use Rattle.laws.specs.Limits.{SHEET_CELLS}
use Rattle.machine.specs.View.{book_of}
use Rattle.timed.proofs.Writing.{Going, none_yet, within_page, part_room, next_part, all_begun}
use Rattle.timed.proofs.write_events.Goals as goal
use Rattle.timed.proofs.write_events.Lts as lts
use Rattle.timed.proofs.write_events.Tie as tie
use Rattle.timed.proofs.write_events.Reads as reads

abbrev At-loop-i : Type 0
At-loop-i = lts.At-loop tie.the-claims reads.Pre reads.Post goal.the-invariant-loop-i goal.the-decreases-loop-i

pub overflow_cast-count : goal.overflow_cast-count
overflow_cast-count c = omega arith

pub loop-i-init : goal.loop-i-init
loop-i-init c =
    (none_yet _ _ _ _ c.requires.0, c.requires.1)

within : (c : At-loop-i) → c.loop-i.bytes ≤ length c.loop-i.page
within c = within_page _ _ _ _ _ _ _ _ c.requires.2 c.loop-i.invariant.0

pub slice_bounds-play_events-count : goal.slice_bounds-play_events-count
slice_bounds-play_events-count c = within c.before.before

pub slice_bounds-play_events-start : goal.slice_bounds-play_events-start
slice_bounds-play_events-start c = within c.before.before

pub slice_bounds-play_events-end : goal.slice_bounds-play_events-end
slice_bounds-play_events-end c = omega arith

pub play_events-some-requires : goal.play_events-some-requires
play_events-some-requires c =
    (c.loop-i.invariant.0.held, c.loop-i.invariant.1)

pub overflow_add-bytes : goal.overflow_add-bytes
overflow_add-bytes c =
    omega (arith, c.loop-i.invariant.0.most, c.loop-i.invariant.0.place, c.events_in-count.ensures, c.play_events-some.ensures.0.most, c.play_events-some.ensures.0.within)

pub loop-i-smaller : goal.loop-i-smaller
loop-i-smaller c =
    omega (arith, c.loop-i-test.true, c.play_events-some.ensures.0.further (omega (arith, c.events_in-count.ensures, c.loop-i-test.true)) (part_room _ _ _ _ _ _ _ _ c.requires.2 c.loop-i.invariant.0 (omega (arith, c.events_in-count.ensures, c.loop-i-test.true))))

pub loop-i-preserved : goal.loop-i-preserved
loop-i-preserved c =
    (next_part _ _ _ _ _ _ _ _ c.requires.2 c.loop-i.invariant.0 _ _ _ c.play_events-some.ensures.0, c.play_events-some.ensures.1)

pub shape_of-page : goal.shape_of-page
shape_of-page c = c.loop-i.invariant.0.long

pub returns : goal.returns
returns c =
    let h = c.loop-i.invariant.0 in
    let counted = c.events_in-count.ensures in (
      h.held,
      all_begun _ _ _ _ _ _ _ _ c.requires.2 h (omega (arith, counted, c.loop-i-test.false)),
      omega (arith, h.most, h.place),
      omega (arith, h.most, h.place, counted),
    )
