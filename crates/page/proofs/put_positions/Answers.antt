use Prim.Native.Nat.{ℕ, ◌+◌, ◌*◌}
use native.Mathlib.Omega.{arith}
use mathlib.Core.Path.{◌≡◌, ap, ◌∙◌}
use mathlib.Core.List.{List, ◌++◌}
use lib.ListN.{length, drop, get_or}
use Rattle.rows.specs.Rows.{rows_of}
use Rattle.rows.proofs.Cells.{length_rows}
use Rattle.plain.specs.Book.{no_position}
use Rattle.tables.specs.Tables.{PositionsFit}
use Rattle.tables.specs.Lent.{position_table}
use Rattle.report.proofs.Blocks.{positions_all}
use Rattle.page.specs.Columns.{LINE}
use Rattle.page.specs.Page.{page_line, page_lines}
use Rattle.page.proofs.Laying.{length_isin}
use Rattle.page.proofs.Legible.{legible}
use Rattle.page.proofs.Writing.{next_lines, all_lines}
use Rattle.page.proofs.put_positions.Goals as goal

pub loop-i-preserved : goal.loop-i-preserved
loop-i-preserved c =
    let d = c.put_position in
    let k = c.loop-i in
    let a = c.args in
    let h = c.requires.1 in
    let isins = a.isins.now in
    let row = c.row_at-position.result in
    let same : row ≡ get_or (rows_of a.rows.now) k.i no_position = c.row_at-position.ensures in
    let bytes : length (page_line isins (k.i + 1) row) ≡ LINE = rw same (legible isins (k.i + 1) _ (h.fits k.i c.loop-i-test.true) (length_isin isins _ h.isins_long (h.security k.i c.loop-i-test.true))).bytes in
    next_lines _ _ k.page k.i k.invariant (page_line isins (k.i + 1) row) d.new.page (ap (page_line isins (k.i + 1)) same) bytes d.auto.page d.ensures

pub returns : goal.returns
unfolding page_lines
returns c =
    let k = c.loop-i in
    let a = c.args in
    let isins = a.isins.now in
    let table = position_table a.rows.now a.count in
    let fits : PositionsFit table = record { places = length_rows a.rows.now; held = c.requires.1.few } in
    all_lines _ _ k.page k.i a.count k.invariant (omega (arith, c.loop-i-test.false))
    ∙ ap (λ (text : List ℕ). text ++ drop (LINE * a.count) a.page.now) (positions_all (page_line isins) table fits)
