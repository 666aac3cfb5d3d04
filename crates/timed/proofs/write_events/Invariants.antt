-- `timed::write_events` meets its contract. The loop's invariant: the text of the events before the next is written.
use Prim.Native.Nat.{◌-◌, ◌≤◌}
use native.Mathlib.Omega.{arith}
use mathlib.Core.Path.{◌≡◌}
use lib.ListN.{length}
use borrow.Author.Rules.{rules}
use Rattle.laws.specs.Limits.{SHEET_CELLS}
use Rattle.machine.specs.View.{book_of}
use Rattle.timed.proofs.Writing.{Going, none_yet, within_page, part_room, next_part, all_begun}
use Rattle.timed.proofs.write_events.Given as goal

abbrev pub invariant-loop-i : goal.invariant-loop-i
invariant-loop-i l =
    (Going l.file (book_of l.initial.played l.initial.lent) l.initial.page l.page l.played l.lent l.i l.bytes)
    × (length l.sheet ≡ SHEET_CELLS)

abbrev pub decreases-loop-i : goal.decreases-loop-i
decreases-loop-i l =
    l.count - l.i
