-- `calendar::day_to_date` meets its contract.
use Rattle.std.proofs.Common.{ℕ, Ok, arith, ap, sym, ◌∙◌}
use Rattle.std.proofs.lemmas.Result.{err_from_is_err_and}
use Rattle.calendar.specs.Dates.{day_number, date_of}
use Rattle.calendar.specs.BusinessDays.{holidays, business_day}
use Rattle.calendar.specs.Lengths.{day_below}
use Rattle.calendar.specs.Reasons.{ordered}
use Rattle.calendar.specs.Decided.{opening_wrong, holidays_wrong, number_low, number_high, day_after, date_is, there}
use Rattle.calendar.proofs.day_to_date.Goals as goal

pub returns-then-not-valid : goal.returns-then-not-valid
returns-then-not-valid c = opening_wrong c.args.opening c.args.holidays.now c.args.number (cc)

pub returns-in_err-holidays_refusal : goal.returns-in_err-holidays_refusal
returns-in_err-holidays_refusal c =
    let a = c.args in
    let p = err_from_is_err_and c.from_residual.result c.from_residual.ensures.1 in
    rw (p.1, p.2) (holidays_wrong a.opening a.holidays.now a.number (cc) _ c.in_err-holidays_refusal.ensures)

pub returns-then-number-lt1 : goal.returns-then-number-lt1
returns-then-number-lt1 c =
    let a = c.args in
    number_low a.opening a.holidays.now a.number (cc) (sym c.in_ok-holidays_refusal.ensures) c.if-number-lt1.true

pub returns-then-number-gt-LAST_BUSINESS_DAY : goal.returns-then-number-gt-LAST_BUSINESS_DAY
returns-then-number-gt-LAST_BUSINESS_DAY c =
    let a = c.args in
    number_high a.opening a.holidays.now a.number (cc) (sym c.in_ok-holidays_refusal.ensures) c.if-number-gt-LAST_BUSINESS_DAY.true

pub nth_business_day-day-requires : goal.nth_business_day-day-requires
nth_business_day-day-requires c =
    (ordered c.args.holidays.now (sym c.in_ok-holidays_refusal.ensures), omega (arith, c.calendar_day.ensures, day_below c.args.opening (cc)), c.if-number-lt1.false)

pub returns-then-day : goal.returns-then-day
returns-then-day c =
    let a = c.args in
    let sought = c.nth_business_day-day.ensures ∙ ap (λ (o : ℕ). business_day (holidays a.holidays.now) o a.number) c.calendar_day.ensures in
    day_after a.opening a.holidays.now a.number (cc) (sym c.in_ok-holidays_refusal.ensures) c.if-number-lt1.false c.if-number-gt-LAST_BUSINESS_DAY.false (sym sought ∙ c.if-day.true)

pub returns : goal.returns
returns c =
    let a = c.args in
    let sought = c.nth_business_day-day.ensures ∙ ap (λ (o : ℕ). business_day (holidays a.holidays.now) o a.number) c.calendar_day.ensures in
    let n = there (holidays a.holidays.now) (day_number a.opening) a.number c.if-number-lt1.false (λ e. c.if-day.false (sought ∙ e)) in
    ap Ok (c.date_of.ensures ∙ ap date_of sought)
    ∙ date_is a.opening a.holidays.now a.number (cc) (sym c.in_ok-holidays_refusal.ensures) c.if-number-lt1.false c.if-number-gt-LAST_BUSINESS_DAY.false n
