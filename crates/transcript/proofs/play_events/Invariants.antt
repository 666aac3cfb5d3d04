-- `transcript::play_events` meets its contract. The loop's invariant: the page has the text of the events from the first one up to the next.
use Prim.Native.Nat.{◌+◌, ◌-◌, ◌≤◌, ◌<◌}
use native.Mathlib.Omega.{arith}
use mathlib.Core.Path.{◌≡◌, refl, ap, subst}
use mathlib.Core.Logic.{⊎_elim}
use lib.ListN.{length}
use borrow.Author.Rules.{rules}
use borrow.Author.Tests.{leb-true, leb-false}
use Rattle.laws.specs.Limits.{SHEET_CELLS}
use Rattle.files.specs.File.{events_of}
use Rattle.plain.specs.Histories.{calls_of}
use Rattle.machine.specs.declared.Answered.{Answered}
use Rattle.machine.specs.declared.Core.{Core}
use Rattle.machine.specs.declared.Numbers.{Numbers}
use Rattle.machine.specs.View.{book_of, Held}
use Rattle.calls.specs.Stepping.{Stepped}
use Rattle.calls.proofs.Stepping.{stepped_bare, stepped_on}
use Rattle.report.specs.Pages.{lent}
use Rattle.transcript.specs.Playing.{BLOCK, PlayedOn, between}
use Rattle.replay.specs.Replay.{sheet_after}
use Rattle.transcript.proofs.Showing.{Reached, none_reached, one_reached, room_left, played_on, some_taken, shown, none_filled, more_filled}
use Rattle.transcript.proofs.Showing as showing
use Rattle.transcript.proofs.play_events.Given as goal

abbrev pub invariant-loop-next : goal.invariant-loop-next
invariant-loop-next l =
    (Reached l.file l.initial.last.core l.initial.lent l.from l.next l.initial.page l.page l.last.core l.lent l.used)
    × (length l.sheet ≡ SHEET_CELLS)
    × (l.sheet ≡ sheet_after (book_of l.initial.last.core l.initial.lent) (calls_of (between l.file l.from l.next)) l.initial.sheet)

abbrev pub decreases-loop-next : goal.decreases-loop-next
decreases-loop-next l = l.count - l.next
