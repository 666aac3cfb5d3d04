use native.Mathlib.Omega.{arith}
use Prim.Native.Nat.{ℕ, ◌+◌, ◌-◌}
use mathlib.Core.Path.{◌≡◌, ap, sym, ◌∙◌}
use mathlib.Core.List.{[]}
use mathlib.Core.Bool.{Bool, true, ◌||◌}
use lib.ListN.{length, drop}
use lib.Seq.{drop-length}
use Rattle.laws.specs.Lists.{some}
use Rattle.tables.specs.Tables.{Trades, today}
use Rattle.tables.specs.Lent.{trade_table}
use Rattle.netting.specs.Netting.{is_client}
use Rattle.netting.proofs.Today.{length_today, today_next}
use Rattle.netting.proofs.has_client.Goals as goal
use Rattle.netting.proofs.has_client.Invariants.{left}
use Rattle.netting.proofs.has_client.Lts as lts
use Rattle.netting.proofs.has_client.Tie as tie
use Rattle.netting.proofs.has_client.Reads as reads

abbrev Start : Type 0
Start = lts.Start tie.the-claims reads.Pre reads.Post goal.the-invariant-loop-place goal.the-decreases-loop-place

abbrev In-loop-place : Type 0
In-loop-place = lts.In-loop tie.the-claims reads.Pre reads.Post goal.the-invariant-loop-place goal.the-decreases-loop-place

abbrev After-trade_at : Type 0
After-trade_at = lts.After-trade_at tie.the-claims reads.Pre reads.Post goal.the-invariant-loop-place goal.the-decreases-loop-place

abbrev After-is_client : Type 0
After-is_client = lts.After-is_client tie.the-claims reads.Pre reads.Post goal.the-invariant-loop-place goal.the-decreases-loop-place

abbrev table : Start → Trades
table s = trade_table s.args.trades.now s.args.count s.args.netted

-- the trade that is read is the first that is left
module _ (x : After-is_client) where
  abbrev read : After-trade_at
  read = x.before

  abbrev reached : In-loop-place
  reached = read.before

  first_left : left (table reached.before.before) reached.before.loop-place.place ≡ x.is_client.result || left (table reached.before.before) (reached.before.loop-place.place + 1)
  first_left =
      let s = reached.before.before in
      let i = reached.before.loop-place in
      ap (some is_client) (today_next (table s) s.requires i.place i.invariant.0 reached.loop-place-test.true read.trade_at.result read.trade_at.ensures)
      ∙ ap (λ (b : Bool). b || left (table s) (i.place + 1)) (sym x.is_client.ensures)

pub returns-then-is_client : goal.returns-then-is_client
returns-then-is_client c =
    let here : left (table (reached c.before).before.before) (reached c.before).before.loop-place.place ≡ true = first_left c.before ∙ ap (λ (b : Bool). b || left (table (reached c.before).before.before) ((reached c.before).before.loop-place.place + 1)) c.if-is_client.true in
    sym here ∙ (reached c.before).before.loop-place.invariant.2

pub loop-place-preserved : goal.loop-place-preserved
loop-place-preserved c =
    let here : left (table (reached c.before).before.before) (reached c.before).before.loop-place.place ≡ left (table (reached c.before).before.before) ((reached c.before).before.loop-place.place + 1) =
    first_left c.before ∙ ap (λ (b : Bool). b || left (table (reached c.before).before.before) ((reached c.before).before.loop-place.place + 1)) c.if-is_client.false in
    (omega arith, omega arith, sym here ∙ (reached c.before).before.loop-place.invariant.2)

pub returns : goal.returns
returns c =
    let i = c.loop-place in
    let past : i.place - c.args.netted ≡ length (today (table c.before.before)) = omega (arith, length_today (table c.before.before) c.requires, i.invariant.0, i.invariant.1, c.loop-place-test.false) in
    let over : drop (i.place - c.args.netted) (today (table c.before.before)) ≡ [] = ap (λ (n : ℕ). drop n (today (table c.before.before))) past ∙ drop-length (today (table c.before.before)) in
    sym (ap (some is_client) over) ∙ i.invariant.2
