-- `pairing::pair_off` meets its contract.
use native.Mathlib.Omega.{arith}
use mathlib.Core.Path.{sym}
use Rattle.kept.proofs.Discharging.{both_there, countable}
use Rattle.machine.specs.View.{kept_of}
use Rattle.pairing.proofs.SettingOff.{pair_off_missing, pair_off_refused, pairing, pair_off_done}
use Rattle.pairing.proofs.pair_off.Goals as goal

pub returns-in-Err-clause-called : goal.returns-in-Err-clause-called
returns-in-Err-clause-called c =
    rw c.refused.ensures (pair_off_missing _ _ c.requires.0 _ _ _ c.in-Err.ensures c.requires.1)

pub overflow_sub-short_place : goal.overflow_sub-short_place
overflow_sub-short_place c = (both_there 1024 _ _ _ (sym c.in_default.ensures)).0.above

pub row_at-p-requires : goal.row_at-p-requires
row_at-p-requires c =
    let w = (both_there 1024 _ _ _ (sym c.in_default.ensures)).0 in
    omega (arith, w.above, w.below, c.requires.0.valid.fits.positions.held)

pub overflow_sub-long_place : goal.overflow_sub-long_place
overflow_sub-long_place c = (both_there 1024 _ _ _ (sym c.in_default.ensures)).1.above

pub row_at-q-requires : goal.row_at-q-requires
row_at-q-requires c =
    let w = (both_there 1024 _ _ _ (sym c.in_default.ensures)).1 in
    omega (arith, w.above, w.below, c.requires.0.valid.fits.positions.held)

pub unconfirmed_units-reserved-requires : goal.unconfirmed_units-reserved-requires
unconfirmed_units-reserved-requires c = countable (kept_of c.args.core c.args.lent.now) c.requires.0.valid

pub returns-in-Err-pair_off_refusal-clause-called : goal.returns-in-Err-pair_off_refusal-clause-called
returns-in-Err-pair_off_refusal-clause-called c =
    rw c.refused-in-Err-pair_off_refusal.ensures
    (pair_off_refused _ _ c.requires.0 _ _ _ _ c.in_default.ensures c.row_at-p.ensures c.row_at-q.ensures c.unconfirmed_units-reserved.ensures _ _ c.in-Err-pair_off_refusal.ensures c.requires.1)

pub set_off-requires : goal.set_off-requires
set_off-requires c =
    pairing _ _ c.requires.0 _ _ _ _ c.in_default.ensures c.row_at-p.ensures c.row_at-q.ensures c.unconfirmed_units-reserved.ensures c.in_default-pair_off_refusal.ensures _ c.requires.1

pub returns-clause-called : goal.returns-clause-called
returns-clause-called c =
    rw c.done.ensures
    (pair_off_done _ _ c.requires.0 _ _ _ _ c.in_default.ensures c.row_at-p.ensures c.row_at-q.ensures c.unconfirmed_units-reserved.ensures c.in_default-pair_off_refusal.ensures _ _ _ c.set_off.ensures.kept c.set_off.ensures.paired)
