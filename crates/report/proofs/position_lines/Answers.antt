use Rattle.rows.proofs.Cells.{length_rows}
use Rattle.tables.specs.Lent.{position_table}
use Rattle.report.specs.Lines.{position_line, position_lines}
use Rattle.report.specs.Pages.{wrote_text}
use Rattle.report.proofs.Blocks.{positions_all}
use Rattle.report.proofs.position_lines.Goals as goal

pub returns : goal.returns
unfolding position_lines
returns c =
    let a = c.args in
    wrote_text _ _ _ a.page.now _ _ (positions_all position_line (position_table a.rows.now a.count) (record { places = length_rows a.rows.now; held = c.requires })) c.put_lines.ensures
