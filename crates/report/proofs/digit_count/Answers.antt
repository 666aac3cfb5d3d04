-- `report::digit_count` meets its contract. Zero has as many digits as one has.
use Rattle.std.proofs.Common.{ℕ, zero, suc, ◌+◌, ◌*◌, ◌^◌, ◌≤◌, ◌<◌, ◌≡◌, max, length, arith, pow-suc}
use Rattle.report.specs.Digits.{digits, length_one, length_between}
use Rattle.report.proofs.digit_count.Goals as goal

counted : (n k : ℕ) → 10 ^ k ≤ max n 1 → max n 1 < 10 * 10 ^ k → k + 1 ≡ length (digits n)
counted zero k h l =
    omega (arith, length_one 0 (omega arith), length_one 1 (omega arith), length_between k 1 (omega arith) (omega (arith, pow-suc 10 k)))
counted (suc n) k h l = omega (arith, length_between k (suc n) (omega arith) (omega (arith, pow-suc 10 k)))

pub returns : goal.returns
returns c =
    counted c.args.n c.ilog10.result (rw c.max.ensures at c.ilog10.ensures.power_le) (rw c.max.ensures at c.ilog10.ensures.next_power_gt)
