-- `book::small_sheet` meets its contract.
use mathlib.Core.Path.{refl}
use native.Mathlib.Omega.{arith}
use Rattle.tables.specs.Tables.{pieces}
use borrow.Author.Rules.{rules}
use Rattle.book.proofs.small_sheet.Goals as goal

pub returns : goal.returns
unfolding pieces
returns c = record { outcome = refl; pieces = refl; pieces_fit = record { places = c.blank_pieces.ensures.1; held = omega arith } }
