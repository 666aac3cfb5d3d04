-- `register::check_sum` meets its contract. The loop's invariant: the sum so far, with what the first i characters add, is the
-- check sum, and it is at most 24 for each character passed.
use Prim.Native.Nat.{◌+◌, ◌*◌, ◌≤◌}
use mathlib.Core.Path.{◌≡◌}
use mathlib.Core.List.{reverse}
use lib.ListN.{length, take}
use Rattle.laws.specs.Lists.{each}
use Rattle.register.specs.Isin.{digits, digit_sums, check_sum}
use Rattle.register.proofs.check_sum.Given as goal

abbrev pub invariant-loop-i : goal.invariant-loop-i
invariant-loop-i l =
    (l.i ≤ length l.text) × (l.sum + 24 * l.i ≤ 24 * length l.text) × (l.sum + digit_sums l.doubled (reverse (each digits (take l.i l.text))) ≡ check_sum l.text)
