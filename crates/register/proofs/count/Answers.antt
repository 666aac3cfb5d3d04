-- `register::count` meets its contract.
use Rattle.register.specs.Register.{count}
use Rattle.register.proofs.count.Goals as goal

pub returns : goal.returns
unfolding count
returns c = c.word16.ensures
