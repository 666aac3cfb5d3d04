-- `closing::fined` meets its contract.
use Rattle.kept.proofs.ClosingDay.{close_finable}
use Rattle.tables.specs.Lent.{position_table, award_table}
use Rattle.ledger.specs.Tabled.{CloseFinable}
use Rattle.machine.specs.View.{on_rows, on_awards, on_ledger, kept_of}
use Rattle.closing.proofs.fined.Goals as goal
use Rattle.closing.proofs.fined.Goals.{Start}

finable : (s : Start) → let a = s.args in CloseFinable a.ledger.now (award_table a.awards.now a.core.awards) (position_table a.rows.now a.core.positions) a.core.prices a.core.opening.register a.core.day
finable s =
    close_finable (kept_of s.args.core (on_ledger (on_awards (on_rows s.requires.0 s.args.rows.now) s.args.awards.now) s.args.ledger.now)) s.requires.1.held.valid s.requires.1.accepted

pub post_close-requires : goal.post_close-requires
post_close-requires c = (_, finable c.before.before.before, c.requires.2)

pub returns : goal.returns
returns c = c.post_close.ensures _ (finable c.before.before.before.before) c.requires.2
