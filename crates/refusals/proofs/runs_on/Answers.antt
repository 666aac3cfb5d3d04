-- `refusals::runs_on` meets its contract.
use Prim.Native.Nat.{ℕ}
use native.Mathlib.Omega.{arith}
use mathlib.Core.Path.{◌≡◌, refl, ap, sym, subst}
use mathlib.Core.Logic.{◌≢◌}
use mathlib.Core.Bool.{Bool, false, ◌&&◌}
use lib.Dec.{eqb}
use borrow.Author.Tests.{lt-ltb}
use Rattle.plain.specs.Refusals.{runs_on}
use Rattle.refusals.proofs.runs_on.Goals as goal

-- where no auction runs its position is 0
runs_none : (auction n : ℕ) → auction ≡ 0 → false ≡ runs_on auction n
runs_none auction n e = subst (λ (k : ℕ). false ≡ runs_on k n) (sym e) refl

runs_some : (auction n : ℕ) → auction ≢ 0 → eqb auction n ≡ runs_on auction n
runs_some auction n h = sym (ap (λ (t : Bool). t && eqb auction n) (lt-ltb 0 auction (omega (arith, h))))
