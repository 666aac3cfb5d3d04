-- `register::is_digit` meets its contract.
use Rattle.std.proofs.Common.{rules}
use Rattle.laws.specs.Asked.{within}
use Rattle.register.proofs.is_digit.Goals as goal

pub returns : goal.returns
unfolding within
returns c = search rules
