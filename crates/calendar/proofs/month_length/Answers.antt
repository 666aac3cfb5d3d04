-- `calendar::month_length` meets its contract.
use Rattle.std.proofs.Common.{rules}
use Rattle.calendar.specs.Dates.{month_length}
use Rattle.calendar.proofs.month_length.Goals as goal

pub returns-then-leap : goal.returns-then-leap
unfolding month_length
returns-then-leap c = search rules

pub returns-else-month-eq2 : goal.returns-else-month-eq2
unfolding month_length
returns-else-month-eq2 c = search rules
