-- The ledger of two columns of numbers, and room in it for charges.
use Rattle.std.specs.Prelude.{ℕ, ◌+◌, ◌≤◌, List}
use Rattle.laws.specs.Integers.{total}
use Rattle.plain.specs.declared.Ledger.{Ledger}
use Rattle.plain.specs.Charging.{Charge}
use Rattle.plain.specs.Sound.{cents, Places}

-- the ledger of two lent columns
abbrev pub ledger_of : List ℕ → List ℕ → Ledger
ledger_of credits debits = record { credits = credits; debits = debits }

-- "No account can leave plus or minus 10^17 cents": nor do the totals of all that was credited and debited, with these charges
pub record Room (l : Ledger) (cs : List Charge) : Type 0 where
  pub places : Places l
  pub credits : total l.credits + cents cs ≤ 100000000000000000
  pub debits : total l.debits + cents cs ≤ 100000000000000000
