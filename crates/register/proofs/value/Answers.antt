-- `register::value` meets its contract.
use Rattle.std.proofs.Common.{rules}
use Rattle.laws.specs.Asked.{within}
use Rattle.register.specs.Isin.{value}
use Rattle.register.proofs.value.Goals as goal

pub returns-in-65-to-90 : goal.returns-in-65-to-90
unfolding value within
returns-in-65-to-90 c = search rules

pub returns-in-48-to-57 : goal.returns-in-48-to-57
unfolding value within
returns-in-48-to-57 c = search rules

pub returns-in_default : goal.returns-in_default
unfolding value within
returns-in_default c = search rules

pub returns-in_default-2 : goal.returns-in_default-2
unfolding value within
returns-in_default-2 c = search rules

pub returns-in_default-3 : goal.returns-in_default-3
unfolding value within
returns-in_default-3 c = search rules
