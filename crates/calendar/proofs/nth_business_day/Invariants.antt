use mathlib.Core.Path.{◌≡◌}
use Rattle.calendar.specs.BusinessDays.{business, business_day, Ahead}
use Rattle.calendar.specs.BusinessDays as days
use Rattle.calendar.specs.Walk.{ahead}
use Rattle.calendar.proofs.nth_business_day.Given as goal

abbrev pub invariant-loop-day : goal.invariant-loop-day
invariant-loop-day l =
    Ahead l.holidays l.day l.next × (ahead (days.holidays l.holidays) l.day l.left ≡ ahead (days.holidays l.holidays) l.fn.opening.0 l.initial.left)
