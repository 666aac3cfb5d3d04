use mathlib.Core.Bool.{false}
use Prim.Native.Nat.{ℕ, suc, ◌-◌, ◌<◌}
use native.Mathlib.Omega.{arith}
use mathlib.Core.Path.{◌≡◌, ap, ◌∙◌}
use mathlib.Core.List.{List, reverse}
use lib.ListN.{length, take}
use lib.Seq.{take-length}
use native.Mathlib.Nat.{zero-add}
use Rattle.laws.specs.Lists.{each}
use Rattle.register.specs.Isin.{digits, digit_sums, check_sum}
use Rattle.register.proofs.Digits.{sum_last}
use Rattle.register.proofs.check_sum.Goals as goal

pub loop-i-init : goal.loop-i-init
unfolding check_sum
loop-i-init c =
    let text = c.args.text.now in
    (omega arith, omega arith, zero-add _ ∙ ap (λ (l : List ℕ). digit_sums false (reverse (each digits l))) (take-length text))

pub loop-i-preserved : goal.loop-i-preserved
loop-i-preserved c =
    let text = c.args.text.now in
    let i = c.loop-i.i in
    let d = c.loop-i.doubled in
    let j : ℕ = i - 1 in
    let e : i ≡ suc j = omega arith in
    let h : j < length text = omega arith in
    let last = sum_last text d i j e h in
    (omega arith, omega (arith, c.character_sum-sum.ensures.1), rw c.doubled_before-doubled.ensures (omega (arith, last, c.character_sum-sum.ensures.0, c.loop-i.invariant.2)))

pub returns : goal.returns
unfolding digit_sums
returns c =
    let e : c.loop-i.i ≡ 0 = omega arith in
    omega (arith, c.loop-i.invariant.2, ap (λ (n : ℕ). digit_sums c.loop-i.doubled (reverse (each digits (take n c.args.text.now)))) e)
