-- `register::character_sum` meets its contract.
use Prim.Native.Nat.{ℕ, ◌+◌, ◌/◌, ◌%◌, ◌≤◌}
use mathlib.Core.List.{reverse}
use mathlib.Core.Bool.{true, false, not}
use Rattle.register.specs.Isin.{is_capital, value, digits, digit_sum, twice, digit_sums}
use mathlib.Core.Path.{◌≡◌, ap, sym, ◌∙◌}
use native.Mathlib.Omega.{arith}
use Rattle.register.proofs.Digits.{letter_most, digit_most, letter_adds, digit_adds, digit_sum_most}
use Rattle.register.proofs.character_sum.Goals as goal
use Rattle.register.proofs.character_sum.Lts as lts
use Rattle.register.proofs.character_sum.Tie as tie
use Rattle.register.proofs.character_sum.Reads as reads

abbrev After-digit_sum-then-is_capital : Type 0
After-digit_sum-then-is_capital = lts.After-digit_sum2 tie.the-claims reads.Pre reads.Post

-- what a letter adds, and that it is little
character_letter : (c : After-digit_sum-then-is_capital) → (c.digit_sum.result + c.digit_sum-then-is_capital.result ≡ digit_sums c.args.doubled (reverse (digits c.args.c))) × (c.digit_sum.result + c.digit_sum-then-is_capital.result ≤ 24)
character_letter c =
    let v = c.value-v in
    let n = c.args.c in
    let d = c.args.doubled in
    let e : is_capital n ≡ true = sym c.is_capital.ensures ∙ c.if-is_capital.true in
    let s : c.digit_sum.result ≡ digit_sum (twice d (value n % 10)) = c.digit_sum.ensures ∙ ap (λ (x : ℕ). digit_sum (twice d (x % 10))) v.ensures in
    let t : c.digit_sum-then-is_capital.result ≡ digit_sum (twice (not d) (value n / 10)) = c.digit_sum-then-is_capital.ensures ∙ ap (λ (x : ℕ). digit_sum (twice (not d) (x / 10))) v.ensures in
    (rw (s, t) (letter_adds n d e), omega (arith, s, t, letter_most n e, digit_sum_most d (value n % 10), digit_sum_most (not d) (value n / 10)))

pub overflow_add-result : goal.overflow_add-result
overflow_add-result c = omega (arith, (character_letter c).1)

pub returns-then-is_capital : goal.returns-then-is_capital
returns-then-is_capital c = character_letter c

pub returns-else-is_capital : goal.returns-else-is_capital
returns-else-is_capital c =
    let v = c.value-v in
    let n = c.args.c in
    let d = c.args.doubled in
    let e : is_capital n ≡ false = sym c.is_capital.ensures ∙ c.if-is_capital.false in
    let s = c.digit_sum-else-is_capital.ensures in
    (s ∙ ap (λ (x : ℕ). digit_sum (twice d x)) v.ensures ∙ digit_adds n d e, omega (arith, s, v.ensures, digit_most n e, digit_sum_most d v.result))
