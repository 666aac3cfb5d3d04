-- `replay::play` meets its contract. The loop's invariant: the first i events are played.
use Rattle.std.proofs.Common.{◌≡◌, length, take}
use Rattle.laws.specs.Limits.{SHEET_CELLS}
use Rattle.files.specs.File.{events_of}
use Rattle.plain.specs.Histories.{calls_of}
use Rattle.machine.specs.View.{book_of}
use Rattle.replay.specs.Replay.{PlayedUpTo, sheet_after}
use Rattle.replay.proofs.play.Given as goal

abbrev pub invariant-loop-i : goal.invariant-loop-i
invariant-loop-i l =
    (PlayedUpTo l.initial.after l.initial.lent (take l.i (events_of l.file)) l.after l.lent)
    × (length l.sheet ≡ SHEET_CELLS)
    × (l.sheet ≡ sheet_after (book_of l.initial.after l.initial.lent) (calls_of (take l.i (events_of l.file))) l.initial.sheet)
