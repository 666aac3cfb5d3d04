-- `book::Book::unplayed` meets its contract.
use Rattle.book.specs.View.{view}
use Rattle.book.proofs.Book.unplayed.Goals as goal

pub returns-clause-view : goal.returns-clause-view
unfolding view
returns-clause-view c b opens = opens _ c.new_numbers.ensures.blank

pub returns-clause-valid : goal.returns-clause-valid
returns-clause-valid c held = record { held = held _ c.new_numbers.ensures.blank }
