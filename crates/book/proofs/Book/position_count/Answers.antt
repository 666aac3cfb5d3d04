-- `book::Book::position_count` meets its contract.
use native.Mathlib.Omega.{arith}
use lib.Seq.{length-take-le}
use mathlib.Core.Path.{sym, ◌∙◌}
use Rattle.tables.specs.Tables.{positions}
use Rattle.kept.specs.View as kept
use Rattle.book.specs.View.{view}
use borrow.Author.Rules.{rules}
use Rattle.book.proofs.Book.position_count.Goals as goal

pub returns : goal.returns
unfolding view kept.view positions
returns c =
    let f = c.requires.held.valid.fits.positions in
    c.position_count.ensures ∙ sym (length-take-le _ _ (omega (arith, f.places, f.held)))
