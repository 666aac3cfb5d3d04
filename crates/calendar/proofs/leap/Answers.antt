-- `calendar::leap` meets its contract.
use Rattle.std.proofs.Common.{rules}
use Rattle.calendar.specs.Dates.{leap}
use Rattle.calendar.proofs.leap.Goals as goal

pub returns-then-year-ne0 : goal.returns-then-year-ne0
unfolding leap
returns-then-year-ne0 c = search rules

pub returns-else-year-ne0 : goal.returns-else-year-ne0
unfolding leap
returns-else-year-ne0 c = search rules

pub returns-else-year-eq0 : goal.returns-else-year-eq0
unfolding leap
returns-else-year-eq0 c = search rules
