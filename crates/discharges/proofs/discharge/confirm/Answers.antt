-- `discharges::discharge::confirm` meets its contract.
use native.Mathlib.Omega.{arith}
use mathlib.Core.Path.{sym}
use Rattle.kept.proofs.Discharging.{lookup_there}
use Rattle.discharges.proofs.Confirming.{confirm_missing, confirm_refused, confirm_accepted}
use Rattle.discharges.proofs.discharge.confirm.Goals as goal

pub returns-in-Err-clause-called : goal.returns-in-Err-clause-called
returns-in-Err-clause-called c =
    rw c.refused.ensures (confirm_missing _ _ c.requires.0 _ _ _ c.in-Err.ensures c.requires.1)

pub overflow_sub-k : goal.overflow_sub-k
overflow_sub-k c = (lookup_there 1024 _ _ (sym c.in_default.ensures)).above

pub award_at-award-requires : goal.award_at-award-requires
award_at-award-requires c =
    let w = lookup_there 1024 _ _ (sym c.in_default.ensures) in
    omega (arith, w.above, w.below, c.requires.0.valid.fits.awards.held)

pub returns-in-Err-confirm_refusal-clause-called : goal.returns-in-Err-confirm_refusal-clause-called
returns-in-Err-confirm_refusal-clause-called c =
    rw c.refused-in-Err-confirm_refusal.ensures
    (confirm_refused _ _ c.requires.0 _ _ c.in_default.ensures c.award_at-award.ensures _ _ c.in-Err-confirm_refusal.ensures c.requires.1)

pub buy_in-requires : goal.buy_in-requires
buy_in-requires c =
    (confirm_accepted _ _ c.requires.0 _ _ c.in_default.ensures c.award_at-award.ensures c.in_default-confirm_refusal.ensures, c.award_at-award.ensures, c.requires.1)
