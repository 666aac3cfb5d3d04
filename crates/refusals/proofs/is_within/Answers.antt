-- `refusals::is_within` meets its contract.
use borrow.Author.Tests.{le-leb, lt-leb}
use Rattle.laws.specs.Asked.{within}
use Rattle.refusals.proofs.is_within.Goals as goal

pub returns-then-low-n : goal.returns-then-low-n
unfolding within
returns-then-low-n c = simp (le-leb _ _ c.if-low-n.true)

pub returns-else-low-n : goal.returns-else-low-n
unfolding within
returns-else-low-n c = simp (lt-leb _ _ c.if-low-n.false)
