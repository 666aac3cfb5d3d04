-- `register::isin_at` meets its contract.
use mathlib.Core.Path.{◌≡◌}
use Prim.Native.Nat.{ℕ, ◌+◌, ◌-◌, ◌*◌}
use native.Mathlib.Omega.{arith}
use Rattle.register.specs.Register.{isin_at}
use Rattle.register.proofs.isin_at.Goals as goal

pub returns : goal.returns
unfolding isin_at
returns c =
    let a = c.args in
    let bytes = a.bytes.now in
    let start : ℕ = 2 + a.n + 12 * a.i in
    let e : start + 12 - start ≡ 12 = omega arith in
    rw (e, c.requires.0.counted)
