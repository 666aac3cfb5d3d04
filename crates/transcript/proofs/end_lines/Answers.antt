-- `transcript::end_lines` meets its contract. The accounts' lines follow those of the positions.
use Prim.Native.Nat.{◌+◌, ◌*◌, ◌≤◌}
use native.Mathlib.Omega.{arith}
use mathlib.Core.Path.{◌≡◌, refl, ap, ap₂}
use mathlib.Core.List.{List, ◌++◌}
use lib.ListN.{length}
use Rattle.kept.specs.View.{view}
use Rattle.machine.specs.View.{on_rows, on_ledger, book_of, held_in}
use Rattle.report.specs.Lines.{LINE, position_lines, account_lines}
use Rattle.report.specs.Pages.{none_wrote, put_wrote, put_text, wrote_put, wrote_lent, put_length}
use Rattle.transcript.specs.Transcript.{end_text}
use Rattle.transcript.specs.Playing.{END}
use borrow.Author.Rules.{rules}
use Rattle.transcript.proofs.end_lines.Goals as goal

pub returns-then-page-lt-END : goal.returns-then-page-lt-END
returns-then-page-lt-END c =
    let a = c.args in
    λ others. none_wrote END (end_text (book_of a.core (on_ledger (on_rows others a.rows.now) a.ledger.now))) a.page.now c.if-page-lt-END.true

pub position_lines-used-requires : goal.position_lines-used-requires
position_lines-used-requires c =
    omega (arith, c.position_count-count.ensures, c.requires.1.valid.fits.positions.held)

pub returns : goal.returns
unfolding end_text view
returns c =
    let d = c.account_lines in
    let v = c.position_lines-used in
    let page = c.args.page.now in
    let few = c.requires.1.valid.fits.positions.held in
    let enough : END ≤ length page = c.if-page-lt-END.false in
    let text = position_lines (held_in c.args.rows.now c.position_count-count.result) in
    let more = account_lines c.args.ledger.now in
    let first = wrote_put _ text page v.new.page v.result (omega (arith, few, c.position_count-count.ensures)) v.ensures in
    let long : length v.new.page ≡ length page = put_length text page v.new.page v.result first (omega (arith, v.ensures.most, few, c.position_count-count.ensures)) in
    let all = wrote_lent text page v.new.page v.result first (LINE * 64) more d.new.page d.result (omega (arith, v.ensures.most, few, c.position_count-count.ensures)) d.ensures in
    λ others.
    let book = book_of c.args.core (on_ledger (on_rows others c.args.rows.now) c.args.ledger.now) in
    let same : text ++ more ≡ end_text book = ap₂ (λ (x y : List _). x ++ y) (ap (λ m. position_lines (held_in c.args.rows.now m)) c.position_count-count.ensures) refl in
    put_wrote END (end_text book) page _ _ enough (omega (arith, all.bytes, ap length same, v.ensures.most, d.ensures.most, few, c.position_count-count.ensures)) (put_text _ _ page _ _ same all)
