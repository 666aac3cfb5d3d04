-- `rows::lower` meets its contract.
use Prim.Native.Nat.{◌+◌, ◌*◌, ◌≤◌}
use native.Mathlib.Omega.{arith}
use lib.ListN.{get_or, length-set}
use Rattle.laws.specs.Limits.{MOST_NETTED}
use Rattle.rows.proofs.Lowering.{figure_room, rows_lowered}
use Rattle.rows.proofs.lower.Goals as goal

pub overflow_add-rows-2 : goal.overflow_add-rows-2
overflow_add-rows-2 c =
    let a = c.args in
    let p = c.requires in
    let column = c.figure_column-column in
    let room : get_or a.rows.now (12 * a.place + column.result) 0 + a.units ≤ MOST_NETTED = rw column.ensures (figure_room _ _ a.manner _ p.0 p.1 p.2) in
    omega (arith, room)

pub returns : goal.returns
returns c =
    let p = c.requires in
    (rw c.figure_column-column.ensures (rows_lowered _ _ _ _ p.0 p.1), simp length-set p.0)
