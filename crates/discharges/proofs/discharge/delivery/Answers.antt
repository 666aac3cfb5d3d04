-- `discharges::discharge::delivery` meets its contract.
use native.Mathlib.Omega.{arith}
use mathlib.Core.Path.{sym}
use Rattle.kept.proofs.Discharging.{lookup_there, countable}
use Rattle.machine.specs.View.{kept_of}
use Rattle.discharges.proofs.Delivering.{delivery_missing, delivery_refused, delivering, delivery_done}
use Rattle.discharges.proofs.discharge.delivery.Goals as goal

pub returns-in-Err-clause-called : goal.returns-in-Err-clause-called
returns-in-Err-clause-called c =
    rw c.refused.ensures (delivery_missing _ _ c.requires.0 _ _ _ c.in-Err.ensures c.requires.1)

pub overflow_sub-place : goal.overflow_sub-place
overflow_sub-place c = (lookup_there 1024 _ _ (sym c.in_default.ensures)).above

pub row_at-p-requires : goal.row_at-p-requires
row_at-p-requires c =
    let w = lookup_there 1024 _ _ (sym c.in_default.ensures) in
    omega (arith, w.above, w.below, c.requires.0.valid.fits.positions.held)

pub unconfirmed_units-reserved-requires : goal.unconfirmed_units-reserved-requires
unconfirmed_units-reserved-requires c = countable (kept_of c.args.core c.args.lent.now) c.requires.0.valid

pub returns-in-Err-delivery_refusal-clause-called : goal.returns-in-Err-delivery_refusal-clause-called
returns-in-Err-delivery_refusal-clause-called c =
    rw c.refused-in-Err-delivery_refusal.ensures
    (delivery_refused _ _ c.requires.0 _ _ _ c.in_default.ensures c.row_at-p.ensures c.unconfirmed_units-reserved.ensures _ _ c.in-Err-delivery_refusal.ensures c.requires.1)

pub discharge-made-requires : goal.discharge-made-requires
discharge-made-requires c =
    delivering _ _ c.requires.0 _ _ _ c.in_default.ensures c.row_at-p.ensures c.unconfirmed_units-reserved.ensures c.in_default-delivery_refusal.ensures _ c.requires.1

pub returns-clause-called : goal.returns-clause-called
returns-clause-called c =
    rw c.done.ensures
    (delivery_done _ _ c.requires.0 _ _ _ c.in_default.ensures c.row_at-p.ensures c.unconfirmed_units-reserved.ensures c.in_default-delivery_refusal.ensures _ _ _ _ c.discharge-made.ensures.kept c.discharge-made.ensures.dealt)
