-- `report::put_right_aligned` meets its contract. The digits are put into the part of the page where they begin.
use Prim.Native.Nat.{◌+◌, ◌-◌, ◌≤◌}
use native.Mathlib.Omega.{arith}
use mathlib.Core.Path.{◌≡◌, ap, ◌∙◌}
use lib.ListN.{length}
use lib.Seq.{sets}
use borrow.Author.Tests.{le-ltb}
use Rattle.report.specs.Digits.{digits}
use Rattle.report.specs.Pages.{back, lent, length_lent, put_sets, sets_lent}
use Rattle.report.proofs.put_right_aligned.Goals as goal

pub returns : goal.returns
returns c =
    let d = c.put_digits in
    let a = c.args in
    let page = a.page.now in
    let from = a.width - c.digit_count-count.result in
    let count : c.digit_count-count.result ≡ length (digits a.n) = c.digit_count-count.ensures in
    let room : length (digits a.n) ≤ length (lent from page) = omega (arith, count, c.if-page-width.false, c.if-width-count.false, length_lent from page) in
    let stored : back from page d.new.page ≡ sets page (from + 0) (digits a.n) = ap (back from page) (put_sets (digits a.n) (lent from page) d.new.page d.result room d.ensures) ∙ sets_lent (digits a.n) page from 0 (omega (arith, c.if-page-width.false)) in
    rw (le-ltb (length page) a.width c.if-page-width.false, le-ltb a.width (length (digits a.n)) (omega (arith, count, c.if-width-count.false)))
    (stored ∙ ap (λ m. sets page m (digits a.n)) (let z : from + 0 ≡ a.width - length (digits a.n) = omega (arith, count) in z))
