-- `netting::gather` meets its contract. The loop's invariant: the totals are those of the trades passed.
use Rattle.tables.specs.Lent.{trade_table}
use Rattle.netting.proofs.Totalling.{Totalling}
use Rattle.netting.proofs.gather.Given as goal

abbrev pub invariant-loop-i : goal.invariant-loop-i
invariant-loop-i l = Totalling l.kind (trade_table l.trades l.count l.netted) l.i l.totals
