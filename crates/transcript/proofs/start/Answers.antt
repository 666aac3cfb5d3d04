-- `transcript::start` meets its contract.
use mathlib.Core.Path.{sym}
use lib.Seq.{length-take-le}
use borrow.Author.Rules.{rules}
use Rattle.transcript.proofs.Ready.{turned_down, started, end_within}
use Rattle.transcript.proofs.start.Goals as goal

pub slice_bounds-ready-end : goal.slice_bounds-ready-end
slice_bounds-ready-end c =
    let input = c.args.input.now in
    sym (length-take-le c.register_end-file.result input (end_within input c.register_end-file.result c.register_end-file.ensures))

pub returns-in-Ok : goal.returns-in-Ok
returns-in-Ok c = started c.args.input.now c.register_end-file.result c.register_end-file.ensures _ c.in-Ok.ensures

pub returns-in-Err : goal.returns-in-Err
returns-in-Err c = turned_down c.args.input.now c.register_end-file.result c.register_end-file.ensures _ c.in-Err.ensures
