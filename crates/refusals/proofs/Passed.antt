-- What decides a list of reasons at a return: the tests that the code has passed so far are reasons that do not apply (`past`), and the one that
-- turns the call down applies (`here`). `search refusing` finds them among what is known there, so that no return names the tests before it.
use Prim.Native.Nat.{ℕ, ◌≤◌, ◌<◌}
use native.Mathlib.Omega.{arith}
use mathlib.Core.Path.{◌≡◌, sym, ap, ◌∙◌}
use mathlib.Core.Logic.{◌≢◌}
use mathlib.Core.Bool.{Bool, true, false, not}
use lib.Dec.{ltb, eqb}
use borrow.Author.Tests.{eq-eqb, ne_eqb, le-leb, lt-leb, lt-ltb, le-ltb}
use Rattle.laws.specs.Refusals.{here, past}

pub negated_false : {t : Bool} → t ≡ false → not t ≡ true
negated_false e = ap not e

pub negated_true : {t : Bool} → t ≡ true → not t ≡ false
negated_true e = ap not e

-- a test t that the code made by a call, which answered r
module _ {r t : Bool} where
  pub answered_yes : r ≡ t → r ≡ true → t ≡ true
  answered_yes same e = sym same ∙ e

  pub answered_no : r ≡ t → r ≡ false → t ≡ false
  answered_no same e = sym same ∙ e

  pub answered_not : {b : Bool} → r ≡ t → not r ≡ b → not t ≡ b
  answered_not same e = ap not (sym same) ∙ e

-- a number k that the code had from a call, which answered r
module _ {r k n : ℕ} where
  pub answered_equal : r ≡ k → r ≡ n → eqb k n ≡ true
  answered_equal same e = eq-eqb k n (sym same ∙ e)

  pub answered_other : r ≡ k → r ≢ n → eqb k n ≡ false
  answered_other same e = ne_eqb k n (λ f. e (same ∙ f))

  pub answered_less : r ≡ k → r < n → ltb k n ≡ true
  answered_less same e = lt-ltb k n (omega arith)

  pub answered_enough : r ≡ k → n ≤ r → ltb k n ≡ false
  answered_enough same e = le-ltb k n (omega arith)

pub ruleset refusing = (here, past, answered_not, answered_yes, answered_no, negated_false, negated_true, answered_equal, answered_other, answered_less, answered_enough, eq-eqb, ne_eqb, le-leb, lt-leb, lt-ltb, le-ltb)
