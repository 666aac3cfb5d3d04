-- `replay::replay` meets its contract.
use Rattle.plain.specs.Book.{opening_read, new}
use Rattle.replay.proofs.Answers.{none_replayed, all_replayed}
use Rattle.replay.proofs.replay.Goals as goal

pub returns-in-Ok : goal.returns-in-Ok
returns-in-Ok c =
    let ready = c.in-Ok.ensures in
    all_replayed _ _ _ ready _ (c.played.ensures.book (new (opening_read c.args.register.now)) ready.opened.opened.book) c.played.ensures.valid c.played.ensures.runs

pub returns-in-Err : goal.returns-in-Err
returns-in-Err c = none_replayed _ _ _ c.in-Err.ensures _ (c.unplayed.ensures.view _ c.in-Err.ensures.unread.book)
