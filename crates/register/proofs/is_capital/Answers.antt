-- `register::is_capital` meets its contract.
use Rattle.std.proofs.Common.{rules}
use Rattle.laws.specs.Asked.{within}
use Rattle.register.proofs.is_capital.Goals as goal

pub returns : goal.returns
unfolding within
returns c = search rules
