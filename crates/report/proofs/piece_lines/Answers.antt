use Rattle.std.proofs.Common.{◌≤◌, ◌∙◌, min, length, ap, arith}
use Rattle.laws.specs.Lists.{each}
use Rattle.pieces.specs.Sheet.{pieces_of, no_piece}
use Rattle.pieces.proofs.Cells.{length_pieces}
use Rattle.report.specs.Lines.{piece_line, piece_lines}
use Rattle.report.specs.Pages.{wrote_text}
use Rattle.report.proofs.Blocks.{each_at, take_min}
use Rattle.report.proofs.piece_lines.Goals as goal

pub returns : goal.returns
unfolding piece_lines
returns c =
    let a = c.args in
    let all = pieces_of a.sheet.now in
    let some : min a.count 1024 ≤ length all = omega (arith, length_pieces a.sheet.now) in
    wrote_text _ _ _ a.page.now _ _ (each_at piece_line all no_piece (min a.count 1024) some ∙ ap (each piece_line) (take_min all a.count 1024 (length_pieces a.sheet.now))) (rw c.min.ensures at c.put_lines.ensures)
