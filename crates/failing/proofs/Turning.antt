-- The bits of a word of which one is turned.
use Prim.Native.Nat.{ℕ, zero, suc, ◌*◌, ◌/◌, ◌%◌, ◌^◌, ◌<◌}
use native.Mathlib.Nat.{mod-lt, one-mul}
use native.Mathlib.Omega.{arith}
use mathlib.Core.Path.{◌≡◌, refl, ap, ◌∙◌}
use mathlib.Core.Bool.{Bool, true, false, not, cond}
use lib.Dec.{eqb}
use lib.Pow.{pow-lt, shl_exact}
use lib.Arith.{digits_mod}
use lib.Bits.{bit_xor, differ, xor_step, xor_shr, xor_lt}
use Rattle.laws.specs.Lists.{only}
use Rattle.failing.specs.Members.{bit}
use Rattle.failing.proofs.Bits.{power_bit}
use Rattle.failing.specs.Counts.{Turned}

differ_lt : (x y : ℕ) → x < 2 → y < 2 → differ x y < 2
differ_lt zero y h l = l
differ_lt (suc zero) zero h l = h
differ_lt (suc zero) (suc zero) h l = omega arith
differ_lt (suc zero) (suc (suc y)) h l = absurd (omega arith)
differ_lt (suc (suc x)) y h l = absurd (omega arith)

xor_odd : (a b : ℕ) → bit_xor a b % 2 ≡ differ (a % 2) (b % 2)
xor_odd a b =
    ap (λ (n : ℕ). n % 2) (xor_step a b) ∙ digits_mod (bit_xor (a / 2) (b / 2)) {m = 2} (differ_lt (a % 2) (b % 2) (mod-lt a (omega arith)) (mod-lt b (omega arith)))

turned : (x : ℕ) (b : Bool) → x < 2 → eqb (differ x (only b 1)) 1 ≡ cond b (not (eqb x 1)) (eqb x 1)
turned zero true h = refl
turned zero false h = refl
turned (suc zero) true h = refl
turned (suc zero) false h = refl
turned (suc (suc x)) b h = absurd (omega arith)

with_turn : (word k m : ℕ) → bit (bit_xor word (2 ^ k)) m ≡ cond (eqb k m) (not (bit word m)) (bit word m)
unfolding bit
with_turn word k m =
    rw (xor_shr word (2 ^ k) m, xor_odd (word / 2 ^ m) (2 ^ k / 2 ^ m), power_bit k m) (turned (word / 2 ^ m % 2) (eqb k m) (mod-lt (word / 2 ^ m) (omega arith)))

pub with_power_turned : (word k : ℕ) → word < 2 ^ 64 → k < 64 → Turned word k (bit_xor word (1 * 2 ^ k % 2 ^ 64))
with_power_turned word k h lt =
    let one : 1 * 2 ^ k % 2 ^ 64 ≡ 2 ^ k = shl_exact 1 k 64 (omega arith) (omega arith) ∙ one-mul (2 ^ k) in
    rw one (record { fits = xor_lt 64 word (2 ^ k) h (pow-lt lt); bits = with_turn word k })
