use native.Mathlib.Omega.{arith}
use Prim.Native.Nat.{◌+◌, ◌-◌, ◌<◌}
use mathlib.Core.Path.{◌≡◌}
use Rattle.calendar.specs.Dates.{year_of, month_of, day_of, day_number}
use Rattle.calendar.specs.Lengths.{parts, in_all}
use Rattle.calendar.proofs.calendar_day.Goals as goal
use Rattle.calendar.proofs.calendar_day.Lts as lts
use Rattle.calendar.proofs.calendar_day.Tie as tie
use Rattle.calendar.proofs.calendar_day.Reads as reads

abbrev After-before_month-months : Type 0
After-before_month-months = lts.After-before_month tie.the-claims reads.Pre reads.Post

pub before_year-years-requires : goal.before_year-years-requires
before_year-years-requires c = let p = parts c.args.date c.requires in (p.year_from, p.year_to)

pub before_month-months-requires : goal.before_month-months-requires
before_month-months-requires c = let p = parts c.args.date c.requires in (p.month_from, p.month_to)

-- the sum that the code makes, and its bound
summed : (c : After-before_month-months) → c.before_year-years.result + c.before_month-months.result + (day_of c.args.date - 1) ≡ day_number c.args.date
unfolding day_number
summed c = omega (arith, c.before_year-years.ensures, c.before_month-months.ensures)

small : (c : After-before_month-months) → c.before_year-years.result + c.before_month-months.result + (day_of c.args.date - 1) < 36525
small c =
    let d = c.args.date in
    omega (arith, c.before_year-years.ensures, c.before_month-months.ensures, in_all (year_of d) (month_of d) (day_of d) (parts d c.requires))

pub overflow_add-result : goal.overflow_add-result
overflow_add-result c = omega (arith, small c)

pub overflow_sub-result : goal.overflow_sub-result
overflow_sub-result c = (parts c.args.date c.requires).day_from

pub overflow_add-result-2 : goal.overflow_add-result-2
overflow_add-result-2 c = omega (arith, small c)

pub overflow_cast-result : goal.overflow_cast-result
overflow_cast-result c = omega (arith, small c)

pub returns : goal.returns
returns c = summed c
