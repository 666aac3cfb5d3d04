-- `probe::probe_last_lines` meets its contract.
use native.Mathlib.Omega.{arith}
use Rattle.probe.proofs.Lines.{refused_lines, accepted_lines}
use borrow.Author.Rules.{rules}
use Rattle.probe.proofs.probe_last_lines.Goals as goal

pub last_lines-requires : goal.last_lines-requires
last_lines-requires c = c.in-Ok.ensures.ready.opened.opened.held

pub overflow_cast-result : goal.overflow_cast-result
overflow_cast-result c = omega (arith, (c.last_lines.ensures _ c.in-Ok.ensures.ready.opened.opened.book).most)

pub returns-in-Ok : goal.returns-in-Ok
returns-in-Ok c =
    accepted_lines c.args.input.now c.args.page.now _ c.in-Ok.ensures _ _ (c.last_lines.ensures _ c.in-Ok.ensures.ready.opened.opened.book)

pub returns-in-Err : goal.returns-in-Err
returns-in-Err c = refused_lines c.args.input.now c.args.page.now _ c.in-Err.ensures.number
