-- `book::Book::day` meets its contract.
use mathlib.Core.Path.{ap}
use Rattle.laws.specs.declared.BusinessDay.{BusinessDay}
use Rattle.kept.specs.View as kept
use Rattle.book.specs.View.{view}
use borrow.Author.Rules.{rules}
use Rattle.book.proofs.Book.day.Goals as goal

pub returns : goal.returns
unfolding view kept.view
returns c = ap (λ (d : BusinessDay). d.0) c.day.ensures
