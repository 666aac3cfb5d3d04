-- `page::put_position` meets its contract. Its line is blank at first, and then has one column more with each step.
use Prim.Native.Nat.{ℕ, ◌-◌, ◌≤◌}
use native.Mathlib.Omega.{arith}
use mathlib.Core.Path.{◌≡◌, refl, ap, ◌∙◌}
use mathlib.Core.List.{List, [], ◌∷◌}
use lib.ListN.{length, take, set}
use lib.Seq.{sets}
use Rattle.laws.specs.Parts.{all_take}
use Rattle.report.specs.Digits.{digits}
use Rattle.report.specs.Lines.{side}
use Rattle.page.specs.Columns.{Column, column, width}
use Rattle.page.specs.Page.{isin_of, kind_letter, columns, page_line}
use Rattle.page.proofs.Laying.{length_isin}
use Rattle.page.proofs.Writing.{Written, next_written, room}
use Rattle.page.proofs.put_position.Goals as goal
use Rattle.page.proofs.put_position.Lts as lts
use Rattle.page.proofs.put_position.Tie as tie
use Rattle.page.proofs.put_position.Reads as reads

abbrev Start : Type 0
Start = lts.Start tie.the-claims reads.Pre reads.Post

abbrev After-put_blank_line : Type 0
After-put_blank_line = lts.After-put_blank_line tie.the-claims reads.Pre reads.Post

abbrev After-put_figure : Type 0
After-put_figure = lts.After-put_figure tie.the-claims reads.Pre reads.Post

abbrev After-put_figure-2 : Type 0
After-put_figure-2 = lts.After-put_figure2 tie.the-claims reads.Pre reads.Post

abbrev After-put_isin : Type 0
After-put_isin = lts.After-put_isin tie.the-claims reads.Pre reads.Post

abbrev After-side_of : Type 0
After-side_of = lts.After-side_of tie.the-claims reads.Pre reads.Post

abbrev After-put_figure-3 : Type 0
After-put_figure-3 = lts.After-put_figure3 tie.the-claims reads.Pre reads.Post

abbrev After-put_figure-4 : Type 0
After-put_figure-4 = lts.After-put_figure4 tie.the-claims reads.Pre reads.Post

abbrev After-put_figure-5 : Type 0
After-put_figure-5 = lts.After-put_figure5 tie.the-claims reads.Pre reads.Post

abbrev After-put_figure-6 : Type 0
After-put_figure-6 = lts.After-put_figure6 tie.the-claims reads.Pre reads.Post

abbrev After-put_figure-7 : Type 0
After-put_figure-7 = lts.After-put_figure7 tie.the-claims reads.Pre reads.Post

abbrev After-put_figure-8 : Type 0
After-put_figure-8 = lts.After-put_figure8 tie.the-claims reads.Pre reads.Post

abbrev After-kind_letter : Type 0
After-kind_letter = lts.After-kind_letter tie.the-claims reads.Pre reads.Post

-- from each step back to the start
abbrev blank_from : After-put_blank_line → Start
blank_from k = k.before.before.before

abbrev numbered_from : After-put_figure → Start
numbered_from k = blank_from k.before.before.before.before

abbrev member_from : After-put_figure-2 → Start
member_from k = numbered_from k.before.before.before.before.before

abbrev named_from : After-put_isin → Start
named_from k = member_from k.before.before.before.before

abbrev sided_from : After-side_of → Start
sided_from k = named_from k.before.before.before

abbrev netted_from : After-put_figure-3 → Start
netted_from k = sided_from k.before.before.before

abbrev delivered_from : After-put_figure-4 → Start
delivered_from k = netted_from k.before.before.before.before.before

abbrev bought_from : After-put_figure-5 → Start
bought_from k = delivered_from k.before.before.before.before.before

abbrev cash_from : After-put_figure-6 → Start
cash_from k = bought_from k.before.before.before.before.before

abbrev unsettled_from : After-put_figure-7 → Start
unsettled_from k = cash_from k.before.before.before.before.before

abbrev settlement_from : After-put_figure-8 → Start
settlement_from k = unsettled_from k.before.before.before.before.before

abbrev kind_from : After-kind_letter → Start
kind_from k = settlement_from k.before.before.before

-- the columns of the line, all of them and the first n
abbrev all : Start → List Column
all s = columns s.args.isins.now s.args.number s.args.position

abbrev Upto : Start → ℕ → List ℕ → Type 0
Upto s n page = Written s.args.page.now page (take n (all s))

blank : (k : After-put_blank_line) → Upto (blank_from k) 0 k.put_blank_line.new.page
blank k = record { text = k.put_blank_line.ensures; long = k.put_blank_line.auto.page }

pub put_figure-requires : goal.put_figure-requires
unfolding columns
put_figure-requires c =
    let s = blank_from c.before.before.before in
    (omega arith, room (all s) 0 s.requires.3 (omega arith) (omega arith), omega (arith, (blank c.before.before.before).long, s.requires.0))

numbered : (k : After-put_figure) → Upto (numbered_from k) 1 k.put_figure.new.page
unfolding columns
numbered k =
    let s = blank_from k.before.before.before.before in
    next_written (take 0 (all s)) (column 1 4 (digits s.args.number)) s.args.page.now _ k.put_figure.new.page refl (all_take (λ c. length c.text ≤ width c) 1 (all s) s.requires.3) (blank k.before.before.before.before) k.put_figure.ensures

pub put_figure-requires-2 : goal.put_figure-requires-2
unfolding columns
put_figure-requires-2 c =
    let s = numbered_from c.before.before.before.before in
    (omega arith, room (all s) 1 s.requires.3 (omega arith) (omega arith), omega (arith, (numbered c.before.before.before.before).long, s.requires.0))

member : (k : After-put_figure-2) → Upto (member_from k) 2 k.put_figure-2.new.page
unfolding columns
member k =
    let s = numbered_from k.before.before.before.before.before in
    next_written (take 1 (all s)) (column 6 7 (digits s.args.position.member)) s.args.page.now _ k.put_figure-2.new.page refl (all_take (λ c. length c.text ≤ width c) 2 (all s) s.requires.3) (numbered k.before.before.before.before.before) k.put_figure-2.ensures

named : (k : After-put_isin) → Upto (named_from k) 3 k.put_isin.new.page
unfolding columns
named k =
    let s = member_from k.before.before.before.before in
    let isin = isin_of s.args.isins.now s.args.position.security in
    let page = k.put_figure-2.new.page in
    let at : 8 ≡ 20 - length isin = omega (arith, length_isin s.args.isins.now s.args.position.security s.requires.1 s.requires.2) in
    next_written (take 2 (all s)) (column 9 20 isin) s.args.page.now page k.put_isin.new.page refl (all_take (λ c. length c.text ≤ width c) 3 (all s) s.requires.3) (member k.before.before.before.before) (k.put_isin.ensures ∙ ap (λ (n : ℕ). sets page n isin) at)

sided : (k : After-side_of) → Upto (sided_from k) 4 (set k.put_isin.new.page 21 k.side_of.result)
unfolding columns
sided k =
    let s = named_from k.before.before.before in
    let page = k.put_isin.new.page in
    next_written (take 3 (all s)) (column 22 22 (side s.args.position.short ∷ [])) s.args.page.now page (set page 21 k.side_of.result) refl (all_take (λ c. length c.text ≤ width c) 4 (all s) s.requires.3) (named k.before.before.before) (ap (set page 21) k.side_of.ensures)

pub put_figure-requires-3 : goal.put_figure-requires-3
unfolding columns
put_figure-requires-3 c =
    let s = sided_from c.before.before in
    (omega arith, room (all s) 4 s.requires.3 (omega arith) (omega arith), omega (arith, (sided c.before.before).long, s.requires.0))

netted : (k : After-put_figure-3) → Upto (netted_from k) 5 k.put_figure-3.new.page
unfolding columns
netted k =
    let s = sided_from k.before.before.before in
    next_written (take 4 (all s)) (column 24 32 (digits s.args.position.netted)) s.args.page.now _ k.put_figure-3.new.page refl (all_take (λ c. length c.text ≤ width c) 5 (all s) s.requires.3) (sided k.before.before.before) k.put_figure-3.ensures

pub put_figure-requires-4 : goal.put_figure-requires-4
unfolding columns
put_figure-requires-4 c =
    let s = netted_from c.before.before.before.before in
    (omega arith, room (all s) 5 s.requires.3 (omega arith) (omega arith), omega (arith, (netted c.before.before.before.before).long, s.requires.0))

delivered : (k : After-put_figure-4) → Upto (delivered_from k) 6 k.put_figure-4.new.page
unfolding columns
delivered k =
    let s = netted_from k.before.before.before.before.before in
    next_written (take 5 (all s)) (column 34 42 (digits s.args.position.delivered)) s.args.page.now _ k.put_figure-4.new.page refl (all_take (λ c. length c.text ≤ width c) 6 (all s) s.requires.3) (netted k.before.before.before.before.before) k.put_figure-4.ensures

pub put_figure-requires-5 : goal.put_figure-requires-5
unfolding columns
put_figure-requires-5 c =
    let s = delivered_from c.before.before.before.before in
    (omega arith, room (all s) 6 s.requires.3 (omega arith) (omega arith), omega (arith, (delivered c.before.before.before.before).long, s.requires.0))

bought : (k : After-put_figure-5) → Upto (bought_from k) 7 k.put_figure-5.new.page
unfolding columns
bought k =
    let s = delivered_from k.before.before.before.before.before in
    next_written (take 6 (all s)) (column 44 52 (digits s.args.position.bought)) s.args.page.now _ k.put_figure-5.new.page refl (all_take (λ c. length c.text ≤ width c) 7 (all s) s.requires.3) (delivered k.before.before.before.before.before) k.put_figure-5.ensures

pub put_figure-requires-6 : goal.put_figure-requires-6
unfolding columns
put_figure-requires-6 c =
    let s = bought_from c.before.before.before.before in
    (omega arith, room (all s) 7 s.requires.3 (omega arith) (omega arith), omega (arith, (bought c.before.before.before.before).long, s.requires.0))

cash : (k : After-put_figure-6) → Upto (cash_from k) 8 k.put_figure-6.new.page
unfolding columns
cash k =
    let s = bought_from k.before.before.before.before.before in
    next_written (take 7 (all s)) (column 54 62 (digits s.args.position.cash)) s.args.page.now _ k.put_figure-6.new.page refl (all_take (λ c. length c.text ≤ width c) 8 (all s) s.requires.3) (bought k.before.before.before.before.before) k.put_figure-6.ensures

pub put_figure-requires-7 : goal.put_figure-requires-7
unfolding columns
put_figure-requires-7 c =
    let s = cash_from c.before.before.before.before in
    (omega arith, room (all s) 8 s.requires.3 (omega arith) (omega arith), omega (arith, (cash c.before.before.before.before).long, s.requires.0))

unsettled : (k : After-put_figure-7) → Upto (unsettled_from k) 9 k.put_figure-7.new.page
unfolding columns
unsettled k =
    let s = cash_from k.before.before.before.before.before in
    next_written (take 8 (all s)) (column 64 72 (digits s.args.position.unsettled)) s.args.page.now _ k.put_figure-7.new.page refl (all_take (λ c. length c.text ≤ width c) 9 (all s) s.requires.3) (cash k.before.before.before.before.before) k.put_figure-7.ensures

pub put_figure-requires-8 : goal.put_figure-requires-8
unfolding columns
put_figure-requires-8 c =
    let s = unsettled_from c.before.before.before.before in
    (omega arith, room (all s) 9 s.requires.3 (omega arith) (omega arith), omega (arith, (unsettled c.before.before.before.before).long, s.requires.0))

settlement : (k : After-put_figure-8) → Upto (settlement_from k) 10 k.put_figure-8.new.page
unfolding columns
settlement k =
    let s = unsettled_from k.before.before.before.before.before in
    next_written (take 9 (all s)) (column 74 78 (digits s.args.position.settlement.0)) s.args.page.now _ k.put_figure-8.new.page refl (all_take (λ c. length c.text ≤ width c) 10 (all s) s.requires.3) (unsettled k.before.before.before.before.before) k.put_figure-8.ensures

kind : (k : After-kind_letter) → Upto (kind_from k) 11 (set k.put_figure-8.new.page 79 k.kind_letter.result)
unfolding columns
kind k =
    let s = settlement_from k.before.before.before in
    let page = k.put_figure-8.new.page in
    next_written (take 10 (all s)) (column 80 80 (kind_letter s.args.position.kind ∷ [])) s.args.page.now page (set page 79 k.kind_letter.result) refl (all_take (λ c. length c.text ≤ width c) 11 (all s) s.requires.3) (settlement k.before.before.before) (ap (set page 79) k.kind_letter.ensures)

pub returns : goal.returns
unfolding columns page_line
returns c = (kind c).text
