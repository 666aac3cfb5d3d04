-- `probe::latest_after` meets its contract.
use Rattle.std.proofs.Common.{ap, ◌∙◌}
use Rattle.std.proofs.lemmas.Result.{err_from_is_err_and}
use Rattle.probe.specs.Latest.{answer_number}
use Rattle.probe.proofs.Reading.{refused_latest, read_latest}
use Rattle.probe.proofs.latest_after.Goals as goal

pub returns-in_err-replay : goal.returns-in_err-replay
returns-in_err-replay c =
    let p = err_from_is_err_and c.from_residual.result c.from_residual.ensures.1 in
    rw (p.1, p.2) (refused_latest _ _ _ _ c.in_err-replay.ensures.number)

pub returns : goal.returns
returns c = ap answer_number c.latest_price.ensures ∙ read_latest _ _ _ _ c.in_ok-replay.ensures
