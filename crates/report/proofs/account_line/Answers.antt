-- `report::account_line` meets its contract. The parts of the line are put one after the other.
use native.Mathlib.Omega.{arith}
use Prim.Native.Nat.{◌+◌, ◌≤◌, ◌<◌}
use mathlib.Core.Path.{◌≡◌, ◌∙◌}
use mathlib.Core.List.{[], ◌∷◌, ◌++◌}
use lib.ListN.{length, set, length-set}
use Rattle.report.specs.Lines.{LINE, field, number, signed, amount, account_line}
use Rattle.report.specs.Lengths.{most8, most_amount, account_most}
use Rattle.report.specs.Pages.{Put, back, put_none, put_byte, put_lent, put_text, put_wrote, length_lent, back_length}
use Rattle.report.proofs.Texts.{account_text_lem}
use Rattle.report.proofs.account_line.Goals as goal
use Rattle.report.proofs.account_line.Lts as lts
use Rattle.report.proofs.account_line.Tie as tie
use Rattle.report.proofs.account_line.Reads as reads

abbrev Else-page-lt-LINE : Type 0
Else-page-lt-LINE = lts.Else1 tie.the-claims reads.Pre reads.Post

abbrev After-slice_known-2-1 : Type 0
After-slice_known-2-1 = lts.After-slice_known2 tie.the-claims reads.Pre reads.Post

abbrev After-slice_known-3-1 : Type 0
After-slice_known-3-1 = lts.After-slice_known3 tie.the-claims reads.Pre reads.Post

-- the stored letter leaves the page as long as it was
long : (c : Else-page-lt-LINE) → 80 ≤ length (set c.args.page.now 0 97)
long c = omega (arith, length-set c.args.page.now 0 97, c.if-page-lt-LINE.false)

pub put_number-named-requires : goal.put_number-named-requires
put_number-named-requires c =
    omega (arith, long c.before, length_lent 1 (set c.args.page.now 0 97), most8 c.args.account c.ranges.account.fits)

-- the letter and the account are put, in at most five bytes
named : (c : After-slice_known-2-1) → Put (97 ∷ number c.args.account) c.args.page.now (back 1 (set c.args.page.now 0 97) c.put_number-named.new.page) (1 + c.put_number-named.result)
named c =
    let a = c.args in
    let d = c.put_number-named in
    put_lent (97 ∷ []) a.page.now (set a.page.now 0 97) 1 (put_byte [] a.page.now a.page.now 0 (put_none a.page.now) 97 (omega (arith, c.if-page-lt-LINE.false))) (number a.account) d.new.page d.result d.ensures

short : (c : After-slice_known-2-1) → c.put_number-named.result ≤ 4
short c =
    omega (arith, c.put_number-named.ensures.bytes, most8 c.args.account c.ranges.account.fits)

page_long : (c : After-slice_known-2-1) → length (back 1 (set c.args.page.now 0 97) c.put_number-named.new.page) ≡ length c.args.page.now
page_long c =
    let a = c.args in
    let d = c.put_number-named in
    back_length 1 (set a.page.now 0 97) d.new.page d.auto.page ∙ length-set a.page.now 0 97

pub put_amount-requires : goal.put_amount-requires
put_amount-requires c =
    let d = c.put_number-named in
    omega (arith, short c.before, page_long c.before, c.if-page-lt-LINE.false, length_lent (1 + d.result) (back 1 (set c.args.page.now 0 97) d.new.page), most_amount c.args.negative c.args.cents c.ranges.cents.fits)

-- the cents are put after it, in at most 22 bytes
little : (c : After-slice_known-3-1) → c.put_amount.result ≤ 22
little c =
    omega (arith, c.put_amount.ensures.bytes, most_amount c.args.negative c.args.cents c.ranges.cents.fits)

all_long : (c : After-slice_known-3-1) → length (back (1 + c.put_number-named.result) (back 1 (set c.args.page.now 0 97) c.put_number-named.new.page) c.put_amount.new.page) ≡ length c.args.page.now
all_long c =
    let a = c.args in
    let d = c.put_number-named in
    let z = c.put_amount in
    back_length (1 + d.result) (back 1 (set a.page.now 0 97) d.new.page) z.new.page z.auto.page ∙ page_long c.before.before.before.before

room : (c : After-slice_known-3-1) → 1 + c.put_number-named.result + c.put_amount.result < length (back (1 + c.put_number-named.result) (back 1 (set c.args.page.now 0 97) c.put_number-named.new.page) c.put_amount.new.page)
room c =
    omega (arith, short c.before.before.before.before, little c, all_long c, c.if-page-lt-LINE.false)

pub bounds-page-end : goal.bounds-page-end
bounds-page-end c = room c

pub returns : goal.returns
returns c =
    let a = c.args in
    let d = c.put_number-named in
    let z = c.put_amount in
    let cents = amount a.negative a.cents in
    let page₁ = back 1 (set a.page.now 0 97) d.new.page in
    let page₂ = back (1 + d.result) page₁ z.new.page in
    let both = put_lent (97 ∷ number a.account) a.page.now page₁ (1 + d.result) (named c.before.before.before.before) (field (signed cents)) z.new.page z.result z.ensures in
    let end = put_byte ((97 ∷ number a.account) ++ field (signed cents)) a.page.now page₂ (1 + d.result + z.result) both 10 (room c) in
    put_wrote LINE (account_line a.account cents) a.page.now _ _ c.if-page-lt-LINE.false (account_most a.account a.negative a.cents c.ranges.account.fits c.ranges.cents.fits) (put_text _ (account_line a.account cents) a.page.now _ _ (account_text_lem a.account cents) end)
