-- `register::has_right_size` meets its contract.
use Rattle.std.proofs.Common.{rules, sym}
use Rattle.laws.specs.Asked.{within}
use Rattle.register.specs.Register.{right_size}
use Rattle.register.proofs.Size.{too_short}
use Rattle.register.proofs.has_right_size.Goals as goal

pub returns-then-bytes-lt2 : goal.returns-then-bytes-lt2
returns-then-bytes-lt2 c = sym (too_short _ c.if-bytes-lt2.true)

pub returns-then-contains : goal.returns-then-contains
unfolding right_size within
returns-then-contains c = search rules

pub returns-else-contains : goal.returns-else-contains
unfolding right_size within
returns-else-contains c = search rules
