-- `trading::trade` meets its contract.
use mathlib.Core.Path.{sym}
use Rattle.kept.proofs.Entered.{trade_room}
use Rattle.trading.proofs.Entered.{trade_refused, trade_taken}
use borrow.Author.Rules.{rules}
use Rattle.trading.proofs.trade.Goals as goal

pub returns-in-Err : goal.returns-in-Err
returns-in-Err c = λ others h. rw c.refused.ensures (trade_refused _ others _ _ h _ c.in-Err.ensures)

pub put_trade-requires : goal.put_trade-requires
put_trade-requires c = (c.requires, trade_room _ _ _ (sym c.in_default.ensures))

pub overflow_add-after : goal.overflow_add-after
overflow_add-after c = search (rules, trade_room _ _ _ (sym c.in_default.ensures))

pub returns : goal.returns
returns c =
    λ others h. rw c.done.ensures (trade_taken _ others _ _ h c.in_default.ensures _ c.put_trade.ensures.0 c.put_trade.ensures.1)
