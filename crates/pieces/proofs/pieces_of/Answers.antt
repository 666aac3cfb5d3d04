-- `pieces::pieces_of` meets its contract: each place is read by a call of its own.
use borrow.Author.Rules.{rules}
use Rattle.pieces.specs.Sheet.{pieces_of, no_piece}
use Rattle.pieces.proofs.Cells.{length_pieces}
use Rattle.pieces.proofs.Made.{made_whole}
use Rattle.pieces.proofs.pieces_of.Goals as goal

pub returns : goal.returns
returns c =
    let sheet = c.args.sheet.now in
    made_whole (pieces_of sheet) no_piece c.from_fn.ensures.items (length_pieces sheet) (λ i y q h. search rules)
