-- `auctions::award` meets its contract.
use Prim.Native.Nat.{◌≤◌}
use native.Mathlib.Omega.{arith}
use Rattle.machine.specs.declared.Numbers.{Numbers}
use Rattle.machine.specs.View.{on_rows, on_awards}
use Rattle.auctions.proofs.Auctioning.{award_refused, award_there, award_asks, award_taken}
use Rattle.auctions.proofs.award.Goals as goal
use Rattle.auctions.proofs.award.Goals.{Start, In_default}

abbrev entry : Start → Numbers
entry s = on_awards (on_rows s.requires.0 s.args.rows.now) s.args.awards.now

there : (c : In_default) → let a = c.args in (1 ≤ a.a.position) × (a.a.position ≤ a.core.positions)
there c =
    award_there c.args.core (entry c.before.before) c.requires.1 c.args.a c.in_default.ensures

pub returns-in-Err : goal.returns-in-Err
returns-in-Err c =
    λ others h. rw c.refused.ensures (award_refused _ (on_awards (on_rows others _) _) h _ _ c.in-Err.ensures)

pub overflow_sub-place : goal.overflow_sub-place
overflow_sub-place c = (there c.before).0

pub row_at-short-requires : goal.row_at-short-requires
row_at-short-requires c =
    omega (arith, (there c.before).0, (there c.before).1, c.requires.1.valid.fits.positions.held)

pub awarded_to-awarding-requires : goal.awarded_to-awarding-requires
awarded_to-awarding-requires c =
    (award_asks c.args.core (entry c.before.before.before.before.before.before) c.requires.1 c.args.a c.in_default.ensures, c.requires.1.lent.awards)

pub returns : goal.returns
returns c =
    λ others h.
    rw c.done.ensures
    (award_taken _ (on_awards (on_rows others _) _) h _ c.in_default.ensures _ _ _ _ c.row_at-short.ensures c.awarded_to-awarding.ensures.0 c.awarded_to-awarding.ensures.1)
