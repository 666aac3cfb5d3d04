-- `book::Book::without_sheet` meets its contract.
use Rattle.book.proofs.Returns.{without_sheet}
use Rattle.book.proofs.Book.without_sheet.Goals as goal

pub returns : goal.returns
returns c = without_sheet _ _ _ c.requires.bare _ _ c.step.ensures
