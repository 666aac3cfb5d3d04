-- `book::Book::balance` meets its contract.
use Rattle.book.specs.View.{numbers_in, view}
use Rattle.book.proofs.Book.balance.Goals as goal

pub returns : goal.returns
unfolding view
returns c = c.balance.ensures c.args.self.now.core (numbers_in c.args.self.now)
