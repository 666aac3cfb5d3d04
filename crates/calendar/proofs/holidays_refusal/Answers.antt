-- `calendar::holidays_refusal` meets its contract.
use Rattle.std.proofs.Common.{rules}
use Rattle.calendar.specs.Reasons.{count_holidays}
use Rattle.calendar.proofs.holidays_refusal.Goals as goal

pub returns-then-holidays-gt-MOST_HOLIDAYS : goal.returns-then-holidays-gt-MOST_HOLIDAYS
returns-then-holidays-gt-MOST_HOLIDAYS c = search (rules, count_holidays)

pub returns : goal.returns
returns c = search (rules, count_holidays)
