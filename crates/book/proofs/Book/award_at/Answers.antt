-- `book::Book::award_at` meets its contract.
use Rattle.book.specs.View.{numbers_in, view}
use Rattle.book.proofs.Book.award_at.Goals as goal

pub award_at-requires : goal.award_at-requires
award_at-requires c = (numbers_in c.args.self.now, c.requires.held)

pub returns : goal.returns
unfolding view
returns c = c.award_at.ensures (numbers_in c.args.self.now) c.requires.held
