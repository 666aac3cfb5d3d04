-- `refusals::is_settled` meets its contract. It has a file so that a wrong test is refused here and not at its callers.
use mathlib.Core.Path.{refl}
use Rattle.refusals.proofs.is_settled.Goals as goal

pub returns : goal.returns
returns c = refl
