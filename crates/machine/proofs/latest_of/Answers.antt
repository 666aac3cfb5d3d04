-- `machine::latest_of` meets its contract: number n stands at place n - 1.
use native.Mathlib.Omega.{arith}
use borrow.Author.Rules.{rules}
use borrow.Author.Tests.{eq-eqb, ne_eqb}
use Rattle.tables.specs.Columns.{price_named}
use Rattle.machine.proofs.latest_of.Goals as goal

pub overflow_sub-k : goal.overflow_sub-k
overflow_sub-k c = c.requires.1.above

pub offset_bounds-prices-k : goal.offset_bounds-prices-k
offset_bounds-prices-k c = omega (arith, c.requires.1.below)

pub bounds-prices-k : goal.bounds-prices-k
bounds-prices-k c = omega (arith, c.requires.1.above, c.requires.1.below)

pub returns-then-price-eq0 : goal.returns-then-price-eq0
returns-then-price-eq0 c =
    rw (price_named c.args.prices c.args.security c.requires.0 c.requires.1, eq-eqb _ 0 c.if-price-eq0.true)

pub offset_bounds-prices-k-2 : goal.offset_bounds-prices-k-2
offset_bounds-prices-k-2 c = omega (arith, c.requires.1.below)

pub bounds-prices-k-2 : goal.bounds-prices-k-2
bounds-prices-k-2 c = omega (arith, c.requires.1.above, c.requires.1.below)

pub returns : goal.returns
returns c =
    rw (price_named c.args.prices c.args.security c.requires.0 c.requires.1, ne_eqb _ 0 c.if-price-eq0.false)
