-- `report::put_digits` meets its contract. The invariant: the digits still to come, with the page from where they end, are the page to be.
use Prim.Native.Nat.{◌≤◌}
use mathlib.Core.Path.{◌≡◌}
use mathlib.Core.List.{◌++◌}
use lib.ListN.{length, drop}
use Rattle.report.specs.Digits.{digits}
use Rattle.report.proofs.Stored.{Unstored}
use Rattle.report.proofs.put_digits.Given as goal

abbrev pub invariant-loop-at : goal.invariant-loop-at
invariant-loop-at l =
    (l.at ≤ l.count) × (length l.page ≡ length l.initial.page) × Unstored (digits l.n ++ drop (length (digits l.n)) l.initial.page) l.page l.at l.left

abbrev pub decreases-loop-at : goal.decreases-loop-at
decreases-loop-at l = l.at
