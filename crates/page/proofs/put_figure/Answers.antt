-- `page::put_figure` meets its contract. The digits are stored in the part of the page from the column's first place on.
use Prim.Native.Nat.{ℕ, ◌+◌, ◌-◌, ◌≤◌}
use native.Mathlib.Omega.{arith}
use mathlib.Core.Path.{◌≡◌, ap, ◌∙◌}
use lib.ListN.{length}
use lib.Seq.{sets}
use borrow.Author.Tests.{le-ltb}
use Rattle.report.specs.Digits.{digits}
use Rattle.report.specs.Lines.{ending_at}
use Rattle.report.specs.Pages.{lent, back, length_lent, sets_lent}
use Rattle.page.proofs.put_figure.Goals as goal

pub returns : goal.returns
returns c =
    let d = c.put_right_aligned in
    let a = c.args in
    let page = a.page.now in
    let from = a.first - 1 in
    let width = a.last + 1 - a.first in
    let n = length (digits a.n) in
    let part = lent from page in
    let room : width ≤ length part = omega (arith, c.requires.0, c.requires.1, c.requires.2, length_lent from page) in
    let stored : ending_at width (digits a.n) part ≡ sets part (width - n) (digits a.n) = rw (le-ltb (length part) width room, le-ltb width n (omega (arith, c.requires.1))) in
    ap (back from page) (d.ensures ∙ stored)
    ∙ sets_lent (digits a.n) page from (width - n) (omega (arith, c.requires.0, c.requires.1, c.requires.2))
    ∙ ap (λ (k : ℕ). sets page k (digits a.n)) (omega (arith, c.requires.0, c.requires.1, c.requires.2))
