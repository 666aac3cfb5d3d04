-- `discharges::discharge::cash` meets its contract.
use native.Mathlib.Omega.{arith}
use mathlib.Core.Path.{ap, sym, ◌∙◌}
use Rattle.plain.specs.Book.{price_in}
use Rattle.plain.proofs.Prices.{price_told}
use Rattle.kept.specs.View.{view}
use Rattle.kept.proofs.Discharging.{lookup_there}
use Rattle.machine.proofs.Walking.{registered}
use Rattle.discharges.proofs.Settling.{cash_missing, cash_refused, cash_accepted}
use Rattle.discharges.proofs.discharge.cash.Goals as goal

pub returns-in-Err-clause-called : goal.returns-in-Err-clause-called
returns-in-Err-clause-called c =
    rw c.refused.ensures (cash_missing _ _ c.requires.0 _ _ _ c.in-Err.ensures c.requires.1)

pub overflow_sub-place : goal.overflow_sub-place
overflow_sub-place c = (lookup_there 1024 _ _ (sym c.in_default.ensures)).above

pub row_at-p-requires : goal.row_at-p-requires
row_at-p-requires c =
    let w = lookup_there 1024 _ _ (sym c.in_default.ensures) in
    omega (arith, w.above, w.below, c.requires.0.valid.fits.positions.held)

pub class_of-class-requires : goal.class_of-class-requires
class_of-class-requires c =
    let s = registered _ _ c.requires.0 _ _ (lookup_there 1024 _ _ (sym c.in_default.ensures)) c.row_at-p.ensures in
    (c.requires.0.valid.fits.register, s.above, s.below)

pub latest_of-latest-requires : goal.latest_of-latest-requires
unfolding view
latest_of-latest-requires c =
    (c.requires.0.valid.sound.standing.prices.many, registered _ _ c.requires.0 _ _ (lookup_there 1024 _ _ (sym c.in_default.ensures)) c.row_at-p.ensures)

pub returns-in-Err-cash_refusal-clause-called : goal.returns-in-Err-cash_refusal-clause-called
returns-in-Err-cash_refusal-clause-called c =
    rw c.refused-in-Err-cash_refusal.ensures
    (cash_refused _ _ c.requires.0 _ _ _ _ _ c.in_default.ensures c.row_at-p.ensures c.class_of-class.ensures c.latest_of-latest.ensures c.step_today-today.ensures _ _ c.in-Err-cash_refusal.ensures c.requires.1)

pub settle-requires : goal.settle-requires
settle-requires c = (
  cash_accepted _ _ c.requires.0 _ _ _ _ _ c.in_default.ensures c.row_at-p.ensures c.class_of-class.ensures c.latest_of-latest.ensures c.step_today-today.ensures c.in_default-cash_refusal.ensures,
  record {
    own = c.row_at-p.ensures;
    classed = c.class_of-class.ensures;
    priced = c.price_of-price.ensures ∙ ap price_in c.latest_of-latest.ensures ∙ price_told _;
  },
  c.requires.1,
)
