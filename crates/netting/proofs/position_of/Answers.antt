-- `netting::position_of` meets its contract.
use native.Mathlib.Omega.{arith}
use Rattle.plain.specs.Netting.{made}
use Rattle.netting.proofs.Made.{net_short, net_long}
use Rattle.netting.proofs.position_of.Goals as goal

pub returns-then-bought-sold : goal.returns-then-bought-sold
unfolding made
returns-then-bought-sold c = let a = c.args in net_short _ _ a.bought a.sold c.if-bought-sold.true

pub returns-else-bought-sold : goal.returns-else-bought-sold
unfolding made
returns-else-bought-sold c = let a = c.args in net_long _ _ a.bought a.sold (omega (arith, c.if-bought-sold.false))
