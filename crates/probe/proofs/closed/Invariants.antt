-- `probe::closed` meets its contract. The loop's invariant: with the closes that are left, the book is what all of them make.
use Rattle.std.proofs.Common.{◌≡◌, ◌-◌, ◌≤◌, length, replicate}
use Rattle.plain.specs.Histories.{run}
use Rattle.machine.specs.View.{book_of, Held}
use Rattle.probe.specs.Last.{closing}
use Rattle.probe.proofs.closed.Given as goal

abbrev pub invariant-loop : goal.invariant-loop
invariant-loop l =
    (Held l.after l.lent)
    × (run (book_of l.after l.lent) (replicate (l.end - l.counter) closing) ≡ run (book_of l.initial.after l.initial.lent) (replicate l.end closing))
