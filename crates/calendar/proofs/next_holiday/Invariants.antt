use Prim.Native.Nat.{ℕ, ◌<◌}
use Rattle.calendar.specs.BusinessDays.{holiday_day}
use Rattle.calendar.proofs.next_holiday.Given as goal

abbrev pub invariant-loop-i : goal.invariant-loop-i
invariant-loop-i l = (k : ℕ) → k < l.i → holiday_day l.holidays k < l.day.0
