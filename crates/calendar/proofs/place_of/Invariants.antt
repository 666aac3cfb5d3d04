-- `calendar::place_of` meets its contract. The loop's invariant: the day falls where what is left of it falls from the period on.
use Rattle.std.proofs.Common.{ℕ, ◌-◌, ◌≤◌, ◌<◌, ◌≡◌}
use Rattle.calendar.specs.Dates.{placed}
use Rattle.calendar.proofs.place_of.Given as goal

abbrev pub invariant-loop-period : goal.invariant-loop-period
invariant-loop-period g l =
    (long : ℕ → ℕ) → ((period days : ℕ) → l.first ≤ period → period < l.last → goal.F-post g l.length period days → days ≡ long period)
    → placed long (l.last - l.period) l.period l.left ≡ placed long (l.last - l.first) l.first l.fn.day
