-- `book::Book::new` meets its contract.
use Rattle.book.proofs.Book.new.Goals as goal

pub returns-in-Ok : goal.returns-in-Ok
returns-in-Ok c =
    let o = c.in-Ok.ensures in
    record { number = o.number; opened = record { book = c.unplayed.ensures.view _ o.opened.book; valid = c.unplayed.ensures.valid o.opened.held }; empty = tt }

pub returns-in-Err : goal.returns-in-Err
returns-in-Err c =
    let o = c.in-Err.ensures in
    record { number = o.number; opened = tt; empty = c.unplayed-in-Err.ensures.view _ o.empty }
