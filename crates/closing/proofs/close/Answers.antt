-- `closing::close` meets its contract.
use Rattle.kept.specs.View.{view}
use Rattle.kept.proofs.ClosingDay.{close_early, day_fits}
use Rattle.machine.specs.View.{kept_of}
use Rattle.closing.proofs.ClosingDay.{close_refused, close_accepted, numbered, close_done}
use Rattle.closing.proofs.close.Goals as goal

pub returns-in-Err-clause-called : goal.returns-in-Err-clause-called
returns-in-Err-clause-called c = rw c.refused.ensures (close_refused _ _ c.requires _ c.in-Err.ensures)

pub raise_late-late-requires : goal.raise_late-late-requires
unfolding view
raise_late-late-requires c =
    let h = c.requires in
    (numbered c.args.core c.args.lent.now h, h.valid.sound.standing.rising, h.lent.follows.failing, h.lent.follows.late)

pub fined-requires : goal.fined-requires
fined-requires c =
    (c.args.lent.now, close_accepted c.args.core c.args.lent.now c.requires c.in_default.ensures, c.raise_late-late.ensures.1)

pub net_day-made-requires : goal.net_day-made-requires
net_day-made-requires c = (day_fits (kept_of c.args.core c.args.lent.now) c.requires.valid, c.requires.lent.rows)

pub next_day-after-requires : goal.next_day-after-requires
next_day-after-requires c =
    close_early (kept_of c.args.core c.args.lent.now) (close_accepted c.args.core c.args.lent.now c.requires c.in_default.ensures).accepted

pub returns-clause-called : goal.returns-clause-called
returns-clause-called c =
    rw (c.done.ensures, c.next_day-after.ensures)
    (close_done _ _ (close_accepted _ _ c.requires c.in_default.ensures) _ _ _ _ _ _ c.net_day-made.ensures.1 c.fined.ensures c.raise_late-late.ensures.0 c.raise_late-late.ensures.1 c.net_day-made.ensures.0)
