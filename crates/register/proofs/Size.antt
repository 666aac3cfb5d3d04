-- The size that a register's bytes must have, and the register that they give.
use Prim.Native.Nat.{ℕ, ◌+◌, ◌-◌, ◌*◌, ◌<◌}
use native.Mathlib.Omega.{arith}
use mathlib.Core.Path.{◌≡◌}
use mathlib.Core.List.{List}
use mathlib.Core.Bool.{false, and-false}
use lib.ListN.{length, take, drop}
use borrow.Author.Tests.{ne_eqb}
use Rattle.laws.specs.Parts.{padded}
use Rattle.register.specs.Register.{count, right_size, class_bytes, isin_bytes, register_of}
use Rattle.register.specs.declared.Register.{Register}

pub too_short : (bytes : List ℕ) → length bytes < 2 → right_size bytes ≡ false
unfolding right_size
too_short bytes h =
    simp (ne_eqb (length bytes) (2 + 13 * count bytes) (λ e. omega arith), and-false)

abbrev pub register : ℕ → List ℕ → List ℕ → Register
register n classes isins = record { count = n; classes = classes; isins = isins }

pub made : (bytes classes isins : List ℕ) (n : ℕ) → n ≡ count bytes → classes ≡ padded 0 32 (take (2 + n - 2) (drop 2 bytes)) → isins ≡ padded 0 384 (take (2 + n + 12 * n - (2 + n)) (drop (2 + n) bytes)) → register n classes isins ≡ register_of bytes
unfolding register_of class_bytes isin_bytes
made bytes classes isins n e f g =
    let x : 2 + n - 2 ≡ n = omega arith in
    let y : 2 + n + 12 * n - (2 + n) ≡ 12 * n = omega arith in
    rw (f, g, x, y, e)
