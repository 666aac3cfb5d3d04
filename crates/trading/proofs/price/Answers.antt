-- `trading::price` meets its contract.
use Prim.Native.Nat.{◌≤◌}
use native.Mathlib.Omega.{arith}
use Rattle.trading.proofs.Entered.{price_refused, price_place, price_taken}
use borrow.Author.Rules.{rules}
use Rattle.trading.proofs.price.Goals as goal
use Rattle.trading.proofs.price.Lts as lts
use Rattle.trading.proofs.price.Tie as tie
use Rattle.trading.proofs.price.Reads as reads

pub returns-in-Err : goal.returns-in-Err
returns-in-Err c = λ a h. rw c.refused.ensures (price_refused _ a _ h _ c.in-Err.ensures)

pub overflow_sub-k : goal.overflow_sub-k
overflow_sub-k c = (price_place c.args.core c.requires.0 c.args.p c.requires.1 c.in_default.ensures).0

pub bounds-prices-k : goal.bounds-prices-k
bounds-prices-k c =
    let placed = price_place c.args.core c.requires.0 c.args.p c.requires.1 c.in_default.ensures in
    omega (arith, placed.0, placed.1)

pub bounds-prices-k-2 : goal.bounds-prices-k-2
bounds-prices-k-2 c =
    let placed = price_place c.args.core c.requires.0 c.args.p c.requires.1 c.in_default.ensures in
    omega (arith, placed.0, placed.1)

pub returns : goal.returns
returns c = λ a h. rw c.done.ensures (price_taken _ a _ h c.in_default.ensures)
