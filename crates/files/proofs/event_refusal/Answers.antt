-- `files::event_refusal` meets its contract. The kind is tested first, then the spare bytes of the body.
use Rattle.std.proofs.Common.{rules}
use Rattle.laws.specs.Asked.{within}
use Rattle.files.proofs.event_refusal.Goals as goal

pub returns-then-not-contains : goal.returns-then-not-contains
unfolding within
returns-then-not-contains c = search rules

pub returns-then-body_spare_set : goal.returns-then-body_spare_set
unfolding within
returns-then-body_spare_set c = search rules

pub returns : goal.returns
unfolding within
returns c = search rules
