-- The test of a date's calendar day, by the next holiday, says whether the date is a business day.
use Rattle.std.proofs.Common.{ℕ, ◌≡◌, List, true, not, ltb, eqb, arith, ap, ◌∙◌}
use mathlib.Core.Bool.{Bool, ◌&&◌}
use Rattle.calendar.specs.Dates.{valid, day_number}
use Rattle.calendar.specs.BusinessDays.{holidays, weekday, business, Ordered, Ahead}
use Rattle.calendar.specs.Lengths.{day_below}
use Rattle.calendar.specs.Holidays.{by_next}
use Rattle.calendar.specs.declared.Upcoming.{Upcoming}

pub business_date : (bytes : List ℕ) → Ordered bytes → (date day : ℕ) (next : Upcoming) (test : Bool) → valid date ≡ true → day ≡ day_number date → Ahead bytes day next
    → test ≡ (ltb (weekday day) 5 && not (eqb next.day.0 day)) → test ≡ business (holidays bytes) (day_number date)
business_date bytes o date day next test v e ahead t =
    t ∙ by_next bytes o day (omega (arith, day_below date v)) next ahead ∙ ap (business (holidays bytes)) e
