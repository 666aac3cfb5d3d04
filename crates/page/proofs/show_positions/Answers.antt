-- `page::show_positions` meets its contract.
use Prim.Native.Nat.{ℕ, ◌*◌}
use native.Mathlib.Omega.{arith}
use mathlib.Core.Path.{◌≡◌, ap, ap₂, ◌∙◌}
use mathlib.Core.List.{List, ◌++◌}
use lib.ListN.{drop}
use Rattle.kept.specs.View.{view}
use Rattle.machine.specs.View.{on_rows, book_of, held_in}
use Rattle.page.specs.Columns.{LINE}
use Rattle.page.specs.Page.{page_lines, page_text}
use Rattle.page.proofs.Answers.{none_shown, all_shown, as_many, showable, page_bytes}
use Rattle.page.proofs.show_positions.Goals as goal

pub overflow_mul-written : goal.overflow_mul-written
overflow_mul-written c = omega (arith, c.position_count-count.ensures, c.requires.1.valid.fits.positions.held)

pub returns-then-page-written : goal.returns-then-page-written
unfolding view
returns-then-page-written c =
    let a = c.args in
    λ others.
    none_shown (book_of a.core (on_rows others a.rows.now)) a.page.now
    (omega (arith, c.if-page-written.true, c.position_count-count.ensures, as_many a.core (on_rows c.requires.0 a.rows.now) c.requires.1))

pub put_positions-requires : goal.put_positions-requires
put_positions-requires c =
    let a = c.args in
    (omega (arith, c.if-page-written.false), rw (c.isins-isins.ensures, c.position_count-count.ensures) (showable a.core (on_rows c.requires.0 a.rows.now) c.requires.1))

pub returns : goal.returns
unfolding page_text view
returns c =
    let d = c.put_positions in
    let a = c.args in
    let held = on_rows c.requires.0 a.rows.now in
    let count : c.position_count-count.result ≡ a.core.positions = c.position_count-count.ensures in
    let text : page_lines c.isins-isins.result (held_in a.rows.now c.position_count-count.result) ≡ page_text (book_of a.core held) = ap₂ (λ (isins : List ℕ) (n : ℕ). page_lines isins (held_in a.rows.now n)) c.isins-isins.ensures count in
    λ others.
    all_shown (book_of a.core (on_rows others a.rows.now)) a.page.now d.new.page (LINE * c.position_count-count.result)
    (omega (arith, c.if-page-written.false, count, as_many a.core held c.requires.1))
    (page_bytes a.core held c.requires.1 ∙ omega (arith, count))
    (d.ensures ∙ ap (λ (l : List ℕ). l ++ drop (LINE * c.position_count-count.result) a.page.now) text)
