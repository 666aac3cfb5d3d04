-- `calendar::date_to_day` meets its contract.
use Rattle.std.proofs.Common.{ℕ, ◌+◌, ◌-◌, ◌≡◌, Ok, arith, ap, sym, ◌∙◌}
use Rattle.std.proofs.lemmas.Result.{err_from_is_err_and}
use Rattle.laws.specs.Ranges.{count_most}
use Rattle.calendar.specs.Dates.{day_number}
use Rattle.calendar.specs.BusinessDays.{holidays, business, business_number}
use Rattle.calendar.specs.Answers.{day_numbered}
use Rattle.calendar.specs.Lengths.{day_below}
use Rattle.calendar.specs.Reasons.{ordered}
use Rattle.calendar.specs.Decided.{start_wrong, asked_wrong, list_wrong, too_early, no_business, too_late, day_is}
use Rattle.calendar.proofs.Business.{business_date}
use Rattle.calendar.proofs.date_to_day.Goals as goal
use Rattle.calendar.proofs.date_to_day.Lts as lts
use Rattle.calendar.proofs.date_to_day.Tie as tie
use Rattle.calendar.proofs.date_to_day.Reads as reads

abbrev After-is_business : Type 0
After-is_business = lts.After-is_business tie.the-claims reads.Pre reads.Post tie.handed_clauses

abbrev After-business_days_before-number : Type 0
After-business_days_before-number = lts.After-business_days_before tie.the-claims reads.Pre reads.Post tie.handed_clauses

pub returns-then-not-valid : goal.returns-then-not-valid
returns-then-not-valid c = start_wrong c.args.opening c.args.holidays.now c.args.date (cc)

pub returns-then-not-valid-2 : goal.returns-then-not-valid-2
returns-then-not-valid-2 c = asked_wrong c.args.opening c.args.holidays.now c.args.date (cc) (cc)

pub returns-in_err-holidays_refusal : goal.returns-in_err-holidays_refusal
returns-in_err-holidays_refusal c =
    let a = c.args in
    let p = err_from_is_err_and c.from_residual.result c.from_residual.ensures.1 in
    rw (p.1, p.2) (list_wrong a.opening a.holidays.now a.date (cc) (cc) _ c.in_err-holidays_refusal.ensures)

pub returns-then-day-start : goal.returns-then-day-start
returns-then-day-start c =
    let a = c.args in
    too_early a.opening a.holidays.now a.date (cc) (cc) (sym c.in_ok-holidays_refusal.ensures) (omega (arith, c.calendar_day-start.ensures, c.calendar_day-day.ensures, c.if-day-start.true))

pub next_holiday-requires : goal.next_holiday-requires
next_holiday-requires c =
    (ordered c.args.holidays.now (sym c.in_ok-holidays_refusal.ensures), omega (arith, c.calendar_day-day.ensures, day_below c.args.date (cc)))

-- whether the date is a business day
is : (c : After-is_business) → c.is_business.result ≡ business (holidays c.args.holidays.now) (day_number c.args.date)
is c =
    business_date c.args.holidays.now (ordered c.args.holidays.now (sym c.in_ok-holidays_refusal.ensures)) c.args.date _ _ _ (cc) c.calendar_day-day.ensures c.next_holiday.ensures c.is_business.ensures

pub returns-then-not-is_business : goal.returns-then-not-is_business
returns-then-not-is_business c =
    let a = c.args in
    no_business a.opening a.holidays.now a.date (cc) (cc) (sym c.in_ok-holidays_refusal.ensures) (omega (arith, c.calendar_day-start.ensures, c.calendar_day-day.ensures, c.if-day-start.false)) (sym (is c.before.before) ∙ c.if-not-is_business.true)

pub business_days_before-number-requires : goal.business_days_before-number-requires
business_days_before-number-requires c =
    (ordered c.args.holidays.now (sym c.in_ok-holidays_refusal.ensures), c.if-day-start.false, omega (arith, c.calendar_day-day.ensures, day_below c.args.date (cc)))

-- the number that the code counts
counted : (c : After-business_days_before-number) → c.business_days_before-number.result + 1 ≡ business_number (holidays c.args.holidays.now) (day_number c.args.opening) (day_number c.args.date)
unfolding business_number
counted c =
    let hs = holidays c.args.holidays.now in
    ap (λ (n : ℕ). n + 1) c.business_days_before-number.ensures
    ∙ (ap (λ (o : ℕ). business_number hs o c.calendar_day-day.result.0) c.calendar_day-start.ensures ∙ ap (business_number hs (day_number c.args.opening)) c.calendar_day-day.ensures)

pub overflow_add-number : goal.overflow_add-number
overflow_add-number c =
    let o = c.calendar_day-start.result.0 in
    omega (arith, c.business_days_before-number.ensures, count_most (business (holidays c.args.holidays.now)) o (c.calendar_day-day.result.0 - o), c.calendar_day-day.ensures, day_below c.args.date (cc))

pub returns-then-number-gt-LAST_BUSINESS_DAY : goal.returns-then-number-gt-LAST_BUSINESS_DAY
returns-then-number-gt-LAST_BUSINESS_DAY c =
    let a = c.args in
    too_late a.opening a.holidays.now a.date (cc) (cc) (sym c.in_ok-holidays_refusal.ensures) (omega (arith, c.calendar_day-start.ensures, c.calendar_day-day.ensures, c.if-day-start.false))
    (sym (is c.before.before.before.before) ∙ c.if-not-is_business.false) (omega (arith, counted c.before.before, c.if-number-gt-LAST_BUSINESS_DAY.true))

pub returns : goal.returns
returns c =
    let a = c.args in
    ap (λ (n : ℕ). Ok (day_numbered n)) (counted c.before.before)
    ∙ day_is a.opening a.holidays.now a.date (cc) (cc) (sym c.in_ok-holidays_refusal.ensures) (omega (arith, c.calendar_day-start.ensures, c.calendar_day-day.ensures, c.if-day-start.false))
    (sym (is c.before.before.before.before) ∙ c.if-not-is_business.false) (omega (arith, counted c.before.before, c.if-number-gt-LAST_BUSINESS_DAY.false))
