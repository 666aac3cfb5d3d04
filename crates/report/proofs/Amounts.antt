-- Amounts by their sign: what is printed of them, and the balance of an account as an amount.
use Prim.Native.Nat.{ℕ, zero, suc}
use native.Mathlib.Omega.{arith}
use mathlib.Core.Path.{◌≡◌, refl, ap, sym}
use mathlib.Core.List.{List, [], ◌∷◌, ◌++◌}
use mathlib.Core.Bool.{Bool, true, false, cond, false≢true}
use lib.IntN.{sub_ℕ}
use lib.ListN.{get_or}
use Rattle.laws.specs.Lists.{filter, each, range}
use Rattle.plain.specs.declared.Ledger.{Ledger}
use Rattle.report.specs.Digits.{digits}
use Rattle.report.specs.Lines.{signed, amount, non_zero, account_line, balance_text, cents, accounts, account_lines}

-- an amount that is not negative, zero, and any other
pub positive_amount : (negative : Bool) (n : ℕ) → negative ≡ false → signed (amount negative n) ≡ digits n
unfolding signed
positive_amount true n e = absurd (false≢true (sym e))
positive_amount false n e = refl

pub zero_amount : (negative : Bool) (n : ℕ) → n ≡ 0 → signed (amount negative n) ≡ digits n
unfolding signed
zero_amount true zero e = refl
zero_amount true (suc n) e = absurd (omega arith)
zero_amount false n e = refl

pub negative_amount : (negative : Bool) (n : ℕ) → negative ≡ true → (n ≡ 0 → ⊥) → signed (amount negative n) ≡ 45 ∷ digits n
unfolding signed
negative_amount true zero e h = absurd (h refl)
negative_amount true (suc n) e h = refl
negative_amount false n e h = absurd (false≢true e)

-- texts of the elements that pass a test, as texts of all of which the others have none
module _ {A : Type 0} (p : A → Bool) (f : A → List ℕ) where
  pub each_filtered : (xs : List A) → each f (filter p xs) ≡ each (λ x. cond (p x) (f x) []) xs
  each_filtered [] = refl
  each_filtered (x ∷ xs) = go (p x) (each_filtered xs)
    where
      go : (b : Bool) → each f (filter p xs) ≡ each (λ y. cond (p y) (f y) []) xs → each f (Rattle.laws.specs.Lists.keep b x (filter p xs)) ≡ cond b (f x) [] ++ each (λ y. cond (p y) (f y) []) xs
      go true e = ap (λ (l : List ℕ). f x ++ l) e
      go false e = e

-- the lines of all accounts of a ledger, each by its number
pub accounts_all : (ledger : Ledger) → each (λ k. balance_text k (sub_ℕ (get_or ledger.credits k 0) (get_or ledger.debits k 0))) (range 0 64) ≡ account_lines ledger
unfolding account_lines accounts cents
accounts_all ledger = sym (each_filtered (λ n. non_zero (cents ledger n)) (λ n. account_line n (cents ledger n)) (range 0 64))
