use Prim.Native.Nat.{ℕ}
use mathlib.Core.Path.{◌≡◌, refl, sym, subst}
use mathlib.Core.List.{◌++◌}
use lib.ListN.{length, drop, length-set}
use native.Mathlib.Omega.{arith}
use Rattle.report.specs.Digits.{digits, length_one}
use Rattle.report.proofs.Stored.{Unstored, all_unstored, two_stored, last_stored, all_stored}
use Rattle.report.proofs.put_digits.Goals as goal

pub bounds-page-0 : goal.bounds-page-0
bounds-page-0 c = omega (arith, length_one c.args.n (omega arith))

pub returns-then-n-lt10 : goal.returns-then-n-lt10
returns-then-n-lt10 c =
    let a = c.args in
    let one : length (digits a.n) ≡ 1 = length_one a.n (omega arith) in
    record { bytes = sym one; page = last_stored _ a.page.now (length (digits a.n)) a.n one (omega arith) (all_unstored a.page.now a.n) }

pub loop-at-init : goal.loop-at-init
loop-at-init c =
    let a = c.args in
    (omega arith, refl, subst (λ (k : ℕ). Unstored (digits a.n ++ drop (length (digits a.n)) a.page.now) a.page.now k a.n) (sym c.digit_count-count.ensures) (all_unstored a.page.now a.n))

pub loop-at-preserved : goal.loop-at-preserved
loop-at-preserved c =
    let k = c.loop-at in
    (omega arith, simp length-set k.invariant.1, two_stored _ k.page k.at k.left c.loop-at-test.true (omega arith) k.invariant.2)

pub returns-then-at-eq1 : goal.returns-then-at-eq1
returns-then-at-eq1 c =
    let k = c.loop-at in
    record { bytes = c.digit_count-count.ensures; page = last_stored _ k.page k.at k.left c.if-at-eq1.true (omega arith) k.invariant.2 }

pub returns-else-at-eq1 : goal.returns-else-at-eq1
returns-else-at-eq1 c =
    let k = c.loop-at in
    record { bytes = c.digit_count-count.ensures; page = all_stored _ k.page k.at k.left (omega arith) k.invariant.2 }
