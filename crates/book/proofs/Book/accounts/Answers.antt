-- `book::Book::accounts` meets its contract.
use mathlib.Core.Path.{refl}
use Rattle.kept.specs.View as kept
use Rattle.book.specs.View.{view}
use Rattle.book.proofs.Book.accounts.Goals as goal

pub returns : goal.returns
unfolding view kept.view
returns c = (refl, c.requires.held.valid.fits.places)
