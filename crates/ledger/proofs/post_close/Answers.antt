-- `ledger::post_close` meets its contract.
use native.Mathlib.Omega.{arith}
use mathlib.Core.Path.{◌≡◌, ◌∙◌}
use Rattle.plain.specs.Charging.{posted}
use Rattle.ledger.proofs.Posts.{posted_append, room_first, room_then}
use Rattle.laws.specs.declared.BusinessDay.{BusinessDay}
use Rattle.ledger.specs.Parts.{award_fines_of, close_charges_of}
use Rattle.ledger.specs.Tabled.{LateFinable, CloseFinable}
use Rattle.ledger.proofs.Fines.{none_fined}
use Rattle.tables.specs.Lent.{position_table, award_table}
use Rattle.ledger.proofs.post_close.Goals as goal
use Rattle.ledger.proofs.post_close.Goals.{then-awarded-gt0, else-awarded-gt0}
use Rattle.ledger.proofs.post_close.Lts as lts
use Rattle.ledger.proofs.post_close.Tie as tie
use Rattle.ledger.proofs.post_close.Reads as reads

abbrev Joined-awarded-gt0 : Type 0
Joined-awarded-gt0 = lts.Joined1 tie.the-claims reads.Pre reads.Post

-- the fines of the awards are posted, whether there was an award or not
fined : (c : Joined-awarded-gt0) → let a = c.args in c.if-awarded-gt0.ledger ≡ posted a.ledger.now (award_fines_of (award_table a.awards.now a.awarded) (position_table a.rows.now a.held) a.prices a.register)
fined c =
    elim c.if-awarded-gt0.branch [
      | then-awarded-gt0 w ↦ rw (w.ledger-is) w.post_award_fines.ensures
      | else-awarded-gt0 w ↦ rw (w.ledger-is) (none_fined _ _ _ _ _ (omega (arith, w.if-awarded-gt0.false)))
    ]

-- and the late fines can be, of the positions as they are
late_finable : (c : Joined-awarded-gt0) → let a = c.args in (day : BusinessDay)
    → CloseFinable a.ledger.now (award_table a.awards.now a.awarded) (position_table a.rows.now a.held) a.prices a.register day
    → LateFinable c.if-awarded-gt0.ledger (position_table a.rows.now a.held) a.prices a.register day
unfolding close_charges_of
late_finable c day f =
    record {
      room = rw (fined c) (room_then _ _ _ f.room);
      prices_many = f.prices_many;
      positions_fit = f.positions_fit;
      accounted = f.accounted;
    }

pub post_award_fines-requires : goal.post_award_fines-requires
unfolding close_charges_of
post_award_fines-requires c =
    let f = c.requires.1 in
    record {
      room = room_first _ _ _ f.room;
      prices_many = f.prices_many;
      positions_fit = f.positions_fit;
      accounted = f.accounted;
      awards_fit_lem = f.awards_fit_lem;
      awarded = f.awarded;
    }

pub post_late_fines-requires : goal.post_late_fines-requires
post_late_fines-requires c =
    (_, c.requires.0, late_finable c.before c.requires.0 c.requires.1, c.requires.2)

pub returns : goal.returns
unfolding close_charges_of
returns c = λ day f late.
    (rw (fined c.before.before) at (c.post_late_fines.ensures _ day (late_finable c.before.before day f) late)) ∙ posted_append _ _ _
