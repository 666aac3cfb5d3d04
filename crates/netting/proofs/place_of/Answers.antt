-- `netting::place_of` meets its contract.
use native.Mathlib.Omega.{arith}
use Rattle.netting.specs.Gathering.{place_of}
use Rattle.netting.proofs.place_of.Goals as goal

pub returns-in-Sale : goal.returns-in-Sale
unfolding place_of
returns-in-Sale c = rw c.in-Sale.is (omega arith)

pub returns-in-Purchase : goal.returns-in-Purchase
unfolding place_of
returns-in-Purchase c = rw c.in-Purchase.is (omega arith)
