-- `book::Book::latest_price` meets its contract.
use Rattle.book.specs.View.{numbers_in, view}
use Rattle.book.proofs.Book.latest_price.Goals as goal

pub latest_price-requires : goal.latest_price-requires
latest_price-requires c = (_, c.requires.held)

pub returns : goal.returns
unfolding view
returns c = c.latest_price.ensures (numbers_in c.args.self.now)
