-- `probe::last_lines` meets its contract.
use Prim.Native.Nat.{◌<◌}
use native.Mathlib.Omega.{arith}
use lib.ListN.{length}
use mathlib.Core.Path.{◌∙◌}
use borrow.Author.Rules.{rules}
use Rattle.files.specs.File.{events_of}
use Rattle.plain.specs.Histories.{run}
use Rattle.report.specs.Pages.{none_wrote}
use Rattle.probe.specs.Last.{last_text}
use Rattle.transcript.specs.Playing.{BLOCK}
use Rattle.probe.proofs.Lines.{none_shown, last_shown}
use Rattle.probe.proofs.last_lines.Goals as goal

pub returns-then-count-eq0 : goal.returns-then-count-eq0
returns-then-count-eq0 c =
    let a = c.args in
    λ b opens. none_shown b (events_of a.file.now) a.page.now (omega (arith, c.events_in-count.ensures, c.if-count-eq0.true))

pub returns-then-page-lt-BLOCK : goal.returns-then-page-lt-BLOCK
returns-then-page-lt-BLOCK c =
    let a = c.args in
    λ b opens. none_wrote BLOCK (last_text b (events_of a.file.now)) a.page.now c.if-page-lt-BLOCK.true

pub returns : goal.returns
unfolding run
returns c =
    let a = c.args in
    let events = events_of a.file.now in
    let some : 0 < length events = omega (arith, c.events_in-count.ensures, c.if-count-eq0.false) in
    λ b opens.
    last_shown b events a.page.now c.before_last-book.result _ c.last_event.result _ _ _ _ _ _ _ _ some c.if-page-lt-BLOCK.false c.blank_pieces-items.ensures.1 (c.before_last-book.ensures.book b opens)
    c.last_event.ensures (c.from.ensures ∙ c.events_in-count.ensures) c.step-done.ensures c.numbers_of-shown.ensures.1 c.answer_lines.ensures
