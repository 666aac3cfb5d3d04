-- `discharges::discharge::buy_in` meets its contract.
use native.Mathlib.Omega.{arith}
use Rattle.discharges.proofs.Confirming.{short_there, buying_in, markable, chargeable, confirm_done}
use Rattle.discharges.proofs.discharge.buy_in.Goals as goal

pub overflow_sub-place : goal.overflow_sub-place
overflow_sub-place c = (short_there _ _ _ c.requires.0 _ c.requires.1).above

pub row_at-p-requires : goal.row_at-p-requires
row_at-p-requires c =
    let w = short_there _ _ _ c.requires.0 _ c.requires.1 in
    omega (arith, w.above, w.below, c.requires.0.held.valid.fits.positions.held)

pub discharge-made-requires : goal.discharge-made-requires
discharge-made-requires c = buying_in _ _ _ c.requires.0 _ c.requires.1 _ c.row_at-p.ensures _ c.requires.2

pub post_buy_in-requires : goal.post_buy_in-requires
post_buy_in-requires c =
    chargeable _ _ _ c.requires.0 _ c.requires.1 _ c.row_at-p.ensures _ c.discharge-made.ensures.kept

pub confirm_award-requires : goal.confirm_award-requires
confirm_award-requires c =
    markable _ _ _ c.requires.0 _ c.requires.1 _ c.row_at-p.ensures _ c.discharge-made.ensures.kept

pub returns-clause-called : goal.returns-clause-called
returns-clause-called c =
    rw c.done.ensures
    (confirm_done _ _ _ c.requires.0 _ c.requires.1 _ c.row_at-p.ensures _ c.discharge-made.ensures.kept _ _ _ _ _ c.discharge-made.ensures.dealt c.post_buy_in.ensures c.confirm_award.ensures.0 c.confirm_award.ensures.1)
