use Rattle.std.proofs.Common.{arith}
use Rattle.std.proofs.lemmas.Grind.{common_steps}
use Rattle.plain.specs.Dealing.{long_of}
use Rattle.positions.specs.Dealing.{share_of}
use Rattle.positions.proofs.share_of.Goals as goal

pub returns-then-p-security : goal.returns-then-p-security
unfolding share_of long_of
returns-then-p-security c = grind (arith, common_steps)

pub returns-else-not-p : goal.returns-else-not-p
unfolding share_of long_of
returns-else-not-p c = grind (arith, common_steps)
