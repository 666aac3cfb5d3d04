-- `report::put_line` meets its contract. The letter, the fields and the line feed are put one after the other.
use native.Mathlib.Omega.{arith}
use Prim.Native.Nat.{ℕ, ◌+◌, ◌≤◌}
use mathlib.Core.Path.{◌≡◌, ◌∙◌}
use mathlib.Core.List.{List, [], ◌∷◌, ◌++◌}
use lib.ListN.{length, set, length-set, length-append}
use Rattle.report.specs.Lines.{LINE, numbers}
use Rattle.report.specs.Pages.{Put, back, put_wrote, put_none, put_byte, put_lent, back_length}
use Rattle.report.proofs.put_line.Goals as goal
use Rattle.report.proofs.put_line.Lts as lts
use Rattle.report.proofs.put_line.Tie as tie
use Rattle.report.proofs.put_line.Reads as reads

abbrev Start : Type 0
Start = lts.Start tie.the-claims reads.Pre reads.Post

abbrev Else-page-lt-LINE : Type 0
Else-page-lt-LINE = lts.Else1 tie.the-claims reads.Pre reads.Post

abbrev After-slice_known-2-1 : Type 0
After-slice_known-2-1 = lts.After-slice_known2 tie.the-claims reads.Pre reads.Post

-- a page with room for a line, and the page when its letter and its fields are put
abbrev start : Else-page-lt-LINE → Start
start y = y.before.before.before

abbrev enough : After-slice_known-2-1 → Else-page-lt-LINE
enough c = c.before.before.before.before

abbrev filled : After-slice_known-2-1 → List ℕ
filled c =
    let a = (start (enough c)).args in
    back 1 (set a.page.now 0 a.letter) c.put_numbers-end.new.page

abbrev line : Start → List ℕ
line s = s.args.letter ∷ (numbers s.args.list.now ++ (10 ∷ []))

-- the fields have at most 78 bytes, and so there is room for them
short : (s : Start) → length (numbers s.args.list.now) + 2 ≤ LINE
short s = omega (arith, s.requires, length-append (numbers s.args.list.now) (10 ∷ []))

-- the letter and the fields are put
put : (c : After-slice_known-2-1) → let a = (start (enough c)).args in
    Put (a.letter ∷ numbers a.list.now) a.page.now (filled c) (1 + c.put_numbers-end.result)
put c =
    let a = (start (enough c)).args in
    let d = c.put_numbers-end in
    put_lent (a.letter ∷ []) a.page.now (set a.page.now 0 a.letter) 1 (put_byte [] a.page.now a.page.now 0 (put_none a.page.now) a.letter (omega (arith, (enough c).if-page-lt-LINE.false))) (numbers a.list.now) d.new.page d.result d.ensures

long : (c : After-slice_known-2-1) → length (filled c) ≡ length (start (enough c)).args.page.now
long c =
    let a = (start (enough c)).args in
    let d = c.put_numbers-end in
    back_length 1 (set a.page.now 0 a.letter) d.new.page d.auto.page ∙ length-set a.page.now 0 a.letter

few : (c : After-slice_known-2-1) → c.put_numbers-end.result + 2 ≤ LINE
few c = omega (arith, c.put_numbers-end.ensures.bytes, short (start (enough c)))

pub returns : goal.returns
returns c =
    let s = start (enough c.before) in
    let room = (enough c.before).if-page-lt-LINE.false in
    put_wrote LINE (line s) s.args.page.now _ _ room s.requires
    (put_byte (s.args.letter ∷ numbers s.args.list.now) s.args.page.now _ _ (put c.before) 10 (omega (arith, long c.before, few c.before, room)))
