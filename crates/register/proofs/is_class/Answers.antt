-- `register::is_class` meets its contract.
use Rattle.std.proofs.Common.{rules}
use Rattle.laws.specs.Asked.{within}
use Rattle.register.proofs.is_class.Goals as goal

pub returns : goal.returns
unfolding within
returns c = search rules
