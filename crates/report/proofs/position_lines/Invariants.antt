-- `report::position_lines` meets its contract. The line at an index is that of the position there, by its number.
use Rattle.std.proofs.Common.{get_or, ◌+◌}
use Rattle.plain.specs.Book.{no_position}
use Rattle.rows.specs.Rows.{rows_of}
use Rattle.report.specs.Lines.{position_line}
use Rattle.report.proofs.position_lines.Given as goal

abbrev pub ghost-put_lines : goal.ghost-put_lines
ghost-put_lines a = λ i. position_line (i + 1) (get_or (rows_of a.line.0.now) i no_position)
