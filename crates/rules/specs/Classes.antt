-- Document 01, 'Register and day': "Class 1 is a share under the short selling regulation, 2 another security, 3 fixed income."
use Rattle.std.specs.Prelude.{ℕ, ◌≤◌, ◌<◌, ◌≡◌, ◌≢◌, cond, eqb}
use Rattle.std.proofs.Common.{arith, eq-eqb, ne_eqb}
use Rattle.std.proofs.lemmas.Bool.{eqb-false}
use Rattle.laws.specs.Asked.{Said, passed, failed, ask}

-- what holds for each class, and for a number that is no class
abbrev pub by_class : {A : Type 0} → ℕ → A → A → A → A → A
by_class class share other fixedIncome none = cond (eqb class 1) share (cond (eqb class 2) other (cond (eqb class 3) fixedIncome none))

module _ {A : Type 0} (class : ℕ) (a b c d : A) where
  pub of_fixed_income : class ≡ 3 → by_class class a b c d ≡ c
  of_fixed_income e = simp (ne_eqb class 1 (omega arith), ne_eqb class 2 (omega arith), eq-eqb class 3 e)

  pub of_none : class ≢ 1 → class ≢ 2 → class ≢ 3 → by_class class a b c d ≡ d
  of_none e f g = simp (ne_eqb class 1 e, ne_eqb class 2 f, ne_eqb class 3 g)

-- classes 1 and 2 alike, and 2 and 3 alike
module _ {A : Type 0} (class : ℕ) (a c d : A) where
  pub of_one_or_two : 1 ≤ class → class < 3 → by_class class a a c d ≡ a
  of_one_or_two h l = go (ask (eqb class 1))
    where
      go : Said (eqb class 1) → by_class class a a c d ≡ a
      go (passed e) = simp e
      go (failed e) =
          let n : class ≢ 1 = eqb-false class 1 e in
          simp (e, eq-eqb class 2 (omega arith))

  pub of_two_or_three : class ≢ 1 → 1 ≤ class → class < 4 → by_class class c a a d ≡ a
  of_two_or_three n h l = go (ask (eqb class 2))
    where
      go : Said (eqb class 2) → by_class class c a a d ≡ a
      go (passed e) = simp (ne_eqb class 1 n, e)
      go (failed e) =
          let m : class ≢ 2 = eqb-false class 2 e in
          simp (ne_eqb class 1 n, e, eq-eqb class 3 (omega arith))
