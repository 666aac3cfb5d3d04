-- `replay::ready` meets its contract.
use Rattle.std.proofs.lemmas.Result.{err_from_is_err_and}
use Rattle.replay.proofs.Answers.{turned_down_register, refused_file, passed}
use Rattle.replay.proofs.ready.Goals as goal

pub returns-in_err-core : goal.returns-in_err-core
returns-in_err-core c =
    let p = err_from_is_err_and c.from_residual.result c.from_residual.ensures.1 in
    rw (p.1, p.2) (turned_down_register _ _ _ c.in_err-core.ensures)

pub returns-in-Ok : goal.returns-in-Ok
returns-in-Ok c = passed _ _ _ c.in_ok-core.ensures c.in-Ok.ensures

pub returns-in-Err : goal.returns-in-Err
returns-in-Err c = refused_file _ _ _ c.in_ok-core.ensures _ c.in-Err.ensures
