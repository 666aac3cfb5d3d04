-- `report::piece_lines` meets its contract. The line at an index is that of the piece there.
use Rattle.std.proofs.Common.{get_or}
use Rattle.pieces.specs.Sheet.{pieces_of, no_piece}
use Rattle.report.specs.Lines.{piece_line}
use Rattle.report.proofs.piece_lines.Given as goal

abbrev pub ghost-put_lines : goal.ghost-put_lines
ghost-put_lines a = λ i. piece_line (get_or (pieces_of a.line.0.now) i no_piece)
