use mathlib.Core.Path.{sym, ◌∙◌}
use Rattle.calendar.specs.Lengths.{leap_year, common_year}
use Rattle.calendar.proofs.year_length.Goals as goal

pub returns-then-leap : goal.returns-then-leap
returns-then-leap c = leap_year _ (sym c.leap.ensures ∙ c.if-leap.true)

pub returns-else-leap : goal.returns-else-leap
returns-else-leap c = common_year _ (sym c.leap.ensures ∙ c.if-leap.false)
