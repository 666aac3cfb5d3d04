-- `probe::outcome_on` meets its contract.
use Rattle.probe.proofs.Outcomes.{on_longer}
use Rattle.probe.proofs.outcome_on.Goals as goal

pub returns : goal.returns
returns c = on_longer _ _ _ _ _ _ _ c.blank_pieces-items.ensures.1 c.if-places-lt-PLACES.false c.step-2.ensures.returned
