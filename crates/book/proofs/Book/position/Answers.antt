-- `book::Book::position` meets its contract.
use Rattle.book.specs.View.{numbers_in, view}
use Rattle.book.proofs.Book.position.Goals as goal

pub position-requires : goal.position-requires
position-requires c = (numbers_in c.args.self.now, c.requires.held)

pub returns : goal.returns
unfolding view
returns c = c.position.ensures (numbers_in c.args.self.now) c.requires.held
