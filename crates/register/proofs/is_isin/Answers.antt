-- `register::is_isin` meets its contract.
use Rattle.std.proofs.Common.{rules}
use Rattle.register.specs.Isin.{isin}
use Rattle.register.proofs.Checked.{last_digit}
use Rattle.register.proofs.is_isin.Goals as goal

pub returns-then-is_digit : goal.returns-then-is_digit
unfolding isin
returns-then-is_digit c = search (rules, last_digit)

pub returns-else-is_digit : goal.returns-else-is_digit
unfolding isin
returns-else-is_digit c = search (rules, last_digit)
