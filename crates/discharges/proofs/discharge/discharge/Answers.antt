-- `discharges::discharge::discharge` meets its contract.
use mathlib.Core.Path.{refl}
use Rattle.machine.proofs.Walking.{units_of, lowered_late, follows_after, starts_moved}
use Rattle.discharges.proofs.discharge.discharge.Goals as goal

pub discharged-requires : goal.discharged-requires
discharged-requires c =
    let f = c.requires.falling in
    ((_, _, f.follows.failing, units_of _ _ _ _ _ _ _ _ _ _ f), f.security, f.member)

pub returns-clause-dealt : goal.returns-clause-dealt
returns-clause-dealt c =
    let f = c.requires.falling in
    let low = c.deal-walked.ensures.dealt.positions in
    record {
      dealt = c.deal-walked.ensures.dealt;
      filled = c.deal-walked.ensures.filled;
      follows =
          follows_after _ _ _ _ _ _ _ _ _ _ f _ low _ _ (starts_moved _ _ _ _ _ _ _ _ _ _ f _ low _ c.deal-walked.ensures.within c.deal-walked.ensures.closed)
          (c.discharged.ensures.0 _ _ _ f.follows.failing (units_of _ _ _ _ _ _ _ _ _ _ f) (lowered_late _ _ _ _ _ _ _ _ _ _ f _ low))
          refl;
      rows_length = c.deal-walked.ensures.rows_length;
      sheet_length = c.deal-walked.ensures.sheet_length;
    }
