use native.Mathlib.Omega.{arith}
use Prim.Native.Nat.{ℕ, ◌<◌}
use mathlib.Core.Path.{◌≡◌, sym, ◌∙◌, ap, subst}
use Rattle.calendar.specs.Dates.{year_length, month_length, year_place, month_place, dated, date_of}
use Rattle.calendar.specs.Periods.{Falls, falls}
use Rattle.calendar.specs.declared.Place.{Place}
use Rattle.calendar.proofs.date_of.Goals as goal
use Rattle.calendar.proofs.date_of.Lts as lts
use Rattle.calendar.proofs.date_of.Tie as tie
use Rattle.calendar.proofs.date_of.Reads as reads

abbrev After-year_of-year : Type 0
After-year_of-year = lts.After-year_of tie.the-claims reads.Pre reads.Post

abbrev After-month_of-month : Type 0
After-month_of-month = lts.After-month_of tie.the-claims reads.Pre reads.Post

year_falls : (c : After-year_of-year) → Falls year_length 99 2000 c.args.day.0 c.year_of-year.result
year_falls c =
    subst (Falls year_length 99 2000 c.args.day.0) (sym c.year_of-year.ensures) (falls year_length 99 2000 c.args.day.0)

month_falls : (c : After-month_of-month) → Falls (month_length c.year_of-year.result.period) 11 1 c.year_of-year.result.left c.month_of-month.result
month_falls c =
    let y = c.year_of-year.result in
    subst (Falls (month_length y.period) 11 1 y.left) (sym c.month_of-month.ensures) (falls (month_length y.period) 11 1 y.left)

few : (c : After-month_of-month) → c.month_of-month.result.left < 65536
few c = omega (arith, (month_falls c).days, (year_falls c.before).days, c.well_formed)

date_by : (n : ℕ) (y m : Place) → y ≡ year_place n → m ≡ month_place y.period y.left → dated y.period m ≡ date_of n
unfolding date_of
date_by n y m e f =
    ap (dated y.period) f ∙ ap (λ (p : Place). dated p.period (month_place p.period p.left)) e

pub overflow_mul-result : goal.overflow_mul-result
overflow_mul-result c = omega (arith, (year_falls c.before.before).to)

pub overflow_mul-result-2 : goal.overflow_mul-result-2
overflow_mul-result-2 c = omega (arith, (month_falls c.before.before).to)

pub overflow_add-result : goal.overflow_add-result
overflow_add-result c = omega (arith, (year_falls c.before.before.before).to, (month_falls c.before.before).to)

pub overflow_add-result-2 : goal.overflow_add-result-2
overflow_add-result-2 c = omega (arith, few c.before.before.before)

pub overflow_add-result-3 : goal.overflow_add-result-3
overflow_add-result-3 c =
    omega (arith, few c.before.before.before, (year_falls c.before.before.before.before).to, (month_falls c.before.before.before).to)

pub returns : goal.returns
returns c =
    date_by c.args.day.0 c.year_of-year.result c.month_of-month.result c.year_of-year.ensures c.month_of-month.ensures
