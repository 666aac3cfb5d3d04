-- A quotient rounded half up: nothing under half the divisor, and from there on one more than the divisors that follow.
use Prim.Native.Nat.{ℕ, ◌+◌, ◌-◌, ◌*◌, ◌/◌, ◌%◌, ◌≤◌, ◌<◌}
use native.Mathlib.Nat.{div-eq_of_lt-le, div-add-mod', div-zero, mod-lt, mul_left_comm, add-mul}
use native.Mathlib.Omega.{arith}
use mathlib.Core.Path.{◌≡◌}
use Rattle.rules.specs.Charges.{rounded_half_up}

pub by_zero : (v b : ℕ) → b ≡ 0 → 0 ≡ rounded_half_up v b
unfolding rounded_half_up
by_zero v b e = rw e (omega (arith, div-zero (2 * v + 0)))

-- half of a divisor, rounded up: the least value that rounds to 1
abbrev pub half : ℕ → ℕ
half b = b - b / 2

module _ (v b : ℕ) (h : 0 < b) where
  pub under_half : v < half b → 0 ≡ rounded_half_up v b
  unfolding rounded_half_up
  under_half l = omega (arith, div-eq_of_lt-le {k = 0} (2 * b) {m = 2 * v + b} (omega arith) (omega arith))

  -- what is left above the half, as its quotient and its rest
  split : (v - half b) / b * b + (v - half b) % b ≡ v - half b
  split = div-add-mod' (v - half b) b

  pub from_half : half b ≤ v → (v - half b) / b + 1 ≡ rounded_half_up v b
  unfolding rounded_half_up
  from_half l =
      let k : ℕ = (v - half b) / b in
      let less : (v - half b) % b < b = mod-lt (v - half b) h in
      let e = mul_left_comm k 2 b in
      let f = add-mul k 1 (2 * b) in
      let g = add-mul (k + 1) 1 (2 * b) in
      omega (arith, div-eq_of_lt-le {k = (v - half b) / b + 1} (2 * b) {m = 2 * v + b} (omega (arith, split)) (omega (arith, split)))
