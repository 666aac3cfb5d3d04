-- `report::put_amount` meets its contract, for an amount that is not negative, for zero, and for any other.
use Prim.Native.Nat.{◌+◌, ◌≤◌}
use native.Mathlib.Omega.{arith}
use mathlib.Core.Path.{◌≡◌, ap, sym}
use mathlib.Core.List.{[], ◌∷◌}
use lib.ListN.{length, set, length-set, length-take, length-drop}
use Rattle.report.specs.Digits.{digits}
use Rattle.report.specs.Lines.{field, number, signed, amount}
use Rattle.report.specs.Pages.{put_none, put_byte, put_lent, put_text}
use Rattle.report.proofs.Amounts.{positive_amount, zero_amount, negative_amount}
use Rattle.report.proofs.put_amount.Goals as goal
use Rattle.report.proofs.put_amount.Goals.{then-not-negative-via-then-not-negative, then-not-negative-via-else-not-negative+then-cents-eq0}
use Rattle.report.proofs.put_amount.Lts as lts
use Rattle.report.proofs.put_amount.Tie as tie
use Rattle.report.proofs.put_amount.Reads as reads

abbrev Else-cents-eq0 : Type 0
Else-cents-eq0 = lts.Else2 tie.the-claims reads.Pre reads.Post

abbrev Unsigned : Type 0
Unsigned = lts.Joined1 tie.the-claims reads.Pre reads.Post

-- an amount that is not negative, or zero, has no sign
unsigned : (c : Unsigned) → signed (amount c.args.negative c.args.cents) ≡ digits c.args.cents
unsigned c =
    elim c.then-not-negative.branch [
      | then-not-negative-via-then-not-negative w ↦ positive_amount _ _ w.if-not-negative.true
      | then-not-negative-via-else-not-negative+then-cents-eq0 w ↦ zero_amount _ _ w.if-cents-eq0.true
    ]

pub put_number-requires : goal.put_number-requires
put_number-requires c = omega (arith, ap length (unsigned c.before), c.requires)

pub returns-then-not-negative : goal.returns-then-not-negative
returns-then-not-negative c =
    let a = c.args in
    let d = c.put_number in
    put_text (number a.cents) (field (signed (amount a.negative a.cents))) a.page.now d.new.page d.result (ap field (sym (unsigned c.before.before.before.before.before))) d.ensures

-- the page has room for the blank, the sign and the digits
long : (c : Else-cents-eq0) → 2 + length (digits c.args.cents) ≤ length c.args.page.now
long c =
    omega (arith, ap length (negative_amount c.args.negative c.args.cents c.if-not-negative.false c.if-cents-eq0.false), c.requires)

pub bounds-page-1 : goal.bounds-page-1
bounds-page-1 c = omega (arith, long c, length-set c.args.page.now 0 32)

pub slice_bounds-put_digits-count : goal.slice_bounds-put_digits-count
slice_bounds-put_digits-count c = simp length-set (omega (arith, long c))

pub slice_bounds-put_digits-start : goal.slice_bounds-put_digits-start
slice_bounds-put_digits-start c = simp length-set (omega (arith, long c))

pub put_digits-requires : goal.put_digits-requires
put_digits-requires c = simp (length-take, length-drop, length-set) (omega (arith, long c.before))

pub returns : goal.returns
returns c =
    let page = c.args.page.now in
    let d = c.put_digits in
    let blank = put_byte [] page page 0 (put_none page) 32 (omega (arith, long c.before.before.before.before.before)) in
    let sign = put_byte (32 ∷ []) page (set page 0 32) 1 blank 45 (omega (arith, long c.before.before.before.before.before, length-set page 0 32)) in
    put_text (32 ∷ 45 ∷ digits c.args.cents) (field (signed (amount c.args.negative c.args.cents))) page _ _ (ap field (sym (negative_amount c.args.negative c.args.cents c.if-not-negative.false c.if-cents-eq0.false)))
    (put_lent (32 ∷ 45 ∷ []) page (set (set page 0 32) 1 45) 2 sign (digits c.args.cents) d.new.page d.result d.ensures)
