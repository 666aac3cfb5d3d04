-- What the reads find: number n of a table's places in use, and the balance of an account.
use Prim.Native.Nat.{ℕ, suc, ◌-◌, ◌≤◌, ◌<◌}
use native.Mathlib.Omega.{arith}
use mathlib.Core.Path.{◌≡◌, ap}
use mathlib.Core.Bool.{true}
use mathlib.Core.List.{List}
use lib.ListN.{length, take, get_or}
use lib.Seq.{length-take-le}
use lib.IntN.{sub_ℕ}
use borrow.Author.Tests.{lt-ltb, le-ltb}
use Rattle.laws.specs.Asked.{within, both_bounds}
use Rattle.plain.specs.Book.{nth, there}
use Rattle.plain.proofs.Numbered.{nth_take}
use Rattle.rules.specs.declared.Amount.TheVariants.{Debit, Credit}
use Rattle.reading.specs.Reading.{signed}

module _ {A : Type 0} (none : A) (items : List A) (count n : ℕ) (fits : count ≤ length items) where
  pub there_is : there (take count items) n ≡ within 1 count n
  there_is = ap (λ (k : ℕ). within 1 k n) (length-take-le count items fits)

  pub found : within 1 count n ≡ true → nth none (take count items) n ≡ get_or items (n - 1) none
  found e = nth_take none items count n (both_bounds 1 count n e)

-- a difference of two numbers by its sign
pub credit_is : (a b : ℕ) → b ≤ a → signed (sub_ℕ a b) ≡ Credit (a - b)
credit_is a b h = rw (le-ltb a b h)

pub debit_is : (a b : ℕ) → a < b → signed (sub_ℕ a b) ≡ Debit (b - a)
debit_is a b h = rw (lt-ltb a b h) (ap Debit (let e : suc (b - suc a) ≡ b - a = omega arith in e))
