-- `book::Book::made_of` meets its contract.
use mathlib.Core.Path.{refl}
use Rattle.book.specs.View.{view}
use Rattle.book.proofs.Book.made_of.Goals as goal

pub returns : goal.returns
unfolding view
returns c = record { made = refl; valid = record { held = c.requires }; view = refl }
