-- `book::Book::step` meets its contract. An event that is no discharge answers alike for any sheet, a discharge alike for each that is long enough.
use native.Mathlib.Omega.{arith}
use mathlib.Core.Path.{◌≡◌, sym, ◌∙◌}
use Rattle.plain.specs.Calls.{call}
use Rattle.plain.specs.Refusals.{refusal}
use Rattle.book.specs.View.{view}
use Rattle.calls.proofs.Stepping.{any_sheet}
use Rattle.book.proofs.Returns.{long_sheet, stepped, too_small}
use borrow.Author.Tests.{le-ltb}
use borrow.Author.Rules.{rules}
use Rattle.book.proofs.Book.step.Goals as goal
use Rattle.book.proofs.Book.step.Goals.{else-sheet-lt-PLACES-via-then-sheet-lt-PLACES+else-is_discharge, else-sheet-lt-PLACES-via-else-sheet-lt-PLACES}

pub returns-then-is_discharge : goal.returns-then-is_discharge
returns-then-is_discharge c =
    too_small _ _ _ (sym c.is_discharge.ensures ∙ c.if-is_discharge.true) (omega (arith, c.if-sheet-lt-PLACES.true)) _ c.requires c.small_sheet.ensures

pub returns : goal.returns
returns c =
    let b = view c.args.self.now in
    let same : refusal b (call c.args.e 1024) ≡ refusal b (call c.args.e c.args.sheet) =
    elim c.else-sheet-lt-PLACES.branch [ else-sheet-lt-PLACES-via-then-sheet-lt-PLACES+else-is_discharge w ↦ any_sheet b c.args.e 1024 c.args.sheet (sym w.is_discharge.ensures ∙ w.if-is_discharge.false) | else-sheet-lt-PLACES-via-else-sheet-lt-PLACES w ↦ long_sheet b c.args.e c.args.sheet (le-ltb c.args.sheet 1024 (omega (arith, w.if-sheet-lt-PLACES.false))) ]
    in
    rw c.pieces_of.ensures (stepped _ _ _ same _ _ _ _ _ c.step-answered.ensures)
