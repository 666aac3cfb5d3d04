use Prim.Native.Nat.{◌≤◌, ◌+◌}
use mathlib.Core.Path.{◌≡◌}
use Rattle.calendar.specs.BusinessDays.{business, Ahead}
use Rattle.calendar.specs.BusinessDays as days
use Rattle.calendar.specs.Walk.{counted}
use Rattle.calendar.proofs.business_days_before.Given as goal

abbrev pub invariant-loop-day : goal.invariant-loop-day
invariant-loop-day l =
    Ahead l.holidays l.day l.next × (l.count ≤ l.day) × (l.count + counted (days.holidays l.holidays) l.fn.end.0 l.day ≡ counted (days.holidays l.holidays) l.fn.end.0 l.fn.opening.0)
