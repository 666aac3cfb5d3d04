use Rattle.tables.specs.Tables.{Trades}
use Rattle.netting.specs.declared.Side.TheVariants.{Sale, Purchase}
use Rattle.tables.specs.Lent.{trade_table}
use Rattle.netting.proofs.Totalling.{totalling_start, raisable, purchases_kept, totalling_more, gathered}
use Rattle.netting.proofs.gather.Goals as goal
use Rattle.netting.proofs.gather.Lts as lts
use Rattle.netting.proofs.gather.Tie as tie
use Rattle.netting.proofs.gather.Reads as reads

abbrev Start : Type 0
Start = lts.Start tie.the-claims reads.Pre reads.Post goal.the-invariant-loop-i goal.the-decreases-loop-i

abbrev table : Start → Trades
table s = trade_table s.args.trades.now s.args.count s.args.netted

pub loop-i-init : goal.loop-i-init
loop-i-init c = totalling_start _ (table c) c.requires.0 _ c.requires.1

pub raise-requires : goal.raise-requires
raise-requires c =
    let i = c.loop-i.invariant in
    raisable _ (table c.before.before.before.before) c.requires.0 _ _ i c.loop-i-test.true _ c.trade_at-trade.ensures Sale _ (i.totals Sale)

pub raise-requires-in-loop-i : goal.raise-requires-in-loop-i
raise-requires-in-loop-i c =
    let i = c.loop-i.invariant in
    raisable _ (table c.before.before.before.before.before.before) c.requires.0 _ _ i c.loop-i-test.true _ c.trade_at-trade.ensures Purchase _
    (purchases_kept _ (table c.before.before.before.before.before.before) c.requires.0 _ _ i c.loop-i-test.true _ c.trade_at-trade.ensures _ c.raise.ensures)

pub loop-i-preserved : goal.loop-i-preserved
loop-i-preserved c =
    totalling_more _ (table c.before.before.before.before.before.before.before) c.requires.0 _ _ c.loop-i.invariant c.loop-i-test.true _ c.trade_at-trade.ensures _ c.raise.ensures _ c.raise-in-loop-i.ensures

pub returns : goal.returns
returns c = gathered _ (table c.before.before) c.requires.0 _ _ c.loop-i.invariant c.loop-i-test.false
