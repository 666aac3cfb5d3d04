-- `calls::opening::no_prices` meets its contract: two columns without a price.
use Rattle.laws.specs.Limits.{SECURITIES}
use Rattle.laws.specs.Zips.{zip_replicate}
use Rattle.tables.specs.Tables.{dated, prices}
use Rattle.calls.proofs.opening.no_prices.Goals as goal

pub returns : goal.returns
unfolding prices
returns c = zip_replicate dated SECURITIES 0 (record { 0 = 0 })
