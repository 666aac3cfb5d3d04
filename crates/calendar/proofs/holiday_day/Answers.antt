use mathlib.Core.Path.{sym, ◌∙◌, ap}
use Rattle.calendar.specs.Dates.{valid, day_number}
use Rattle.calendar.specs.Holidays.{each_valid, day_at, day_past}
use Rattle.calendar.proofs.holiday_day.Goals as goal

pub calendar_day-requires : goal.calendar_day-requires
calendar_day-requires c =
    ap valid c.holiday.ensures
    ∙ each_valid c.args.holidays.now c.requires.dates c.args.index c.if-index-holidays.true

pub returns-then-index-holidays : goal.returns-then-index-holidays
returns-then-index-holidays c =
    c.calendar_day.ensures
    ∙ (ap day_number c.holiday.ensures ∙ sym (day_at c.args.holidays.now c.args.index c.if-index-holidays.true))

pub returns-else-index-holidays : goal.returns-else-index-holidays
returns-else-index-holidays c = sym (day_past c.args.holidays.now c.args.index c.if-index-holidays.false)
