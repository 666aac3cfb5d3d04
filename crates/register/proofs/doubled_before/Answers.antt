-- `register::doubled_before` meets its contract.
use mathlib.Core.Path.{sym}
use Rattle.register.specs.Isin.{doubled_before}
use Rattle.register.proofs.doubled_before.Goals as goal

pub returns-then-is_capital : goal.returns-then-is_capital
unfolding doubled_before
returns-then-is_capital c = simp (sym c.is_capital.ensures, c.if-is_capital.true)

pub returns-else-is_capital : goal.returns-else-is_capital
unfolding doubled_before
returns-else-is_capital c = simp (sym c.is_capital.ensures, c.if-is_capital.false)
