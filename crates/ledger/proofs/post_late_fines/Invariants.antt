-- `ledger::post_late_fines` meets its contract: what is posted so far, with what is still to come, is the whole.
use Prim.Native.Nat.{ℕ, ◌+◌}
use mathlib.Core.List.{List}
use Rattle.laws.specs.declared.BusinessDay.{BusinessDay}
use Rattle.register.specs.declared.Register.{Register}
use Rattle.plain.specs.declared.Position.{Position}
use Rattle.plain.specs.declared.Ledger.{Ledger}
use Rattle.plain.specs.Charging.{Charge, late_fines}
use Rattle.tables.specs.Tables as tables
use Rattle.tables.specs.Tables.{Positions, positions}
use Rattle.tables.specs.declared.Prices.{Prices}
use Rattle.rows.specs.Rows.{rows_of}
use Rattle.tables.specs.Late.{LateBefore}
use Rattle.tables.specs.Lent.{position_table}
use Rattle.ledger.specs.Parts.{book_of}
use Rattle.ledger.specs.Tabled.{LateFinable}
use Rattle.ledger.proofs.Posting.{PostingAt}
use Rattle.ledger.proofs.post_late_fines.Given as goal

-- what is asked of the positions, for so many of them and a day
abbrev pub Finable : Ledger → List ℕ → ℕ → Prices → Register → ℕ → BusinessDay → Type 0
Finable ledger rows until prices register held day =
    (LateFinable ledger (position_table rows held) prices register day) × (LateBefore (day.0 + 1) (positions (position_table rows held)) until)

abbrev pub fines_of : BusinessDay → Positions → Prices → Register → Position → List Charge
fines_of day p prices register = late_fines (book_of register day.0 (tables.prices prices) (positions p))

abbrev pub invariant-loop-i : goal.invariant-loop-i
invariant-loop-i l =
    (held : ℕ) (day : BusinessDay) → Finable l.initial.ledger l.rows l.until l.prices l.register held day
    → PostingAt (fines_of day (position_table l.rows held) l.prices l.register) held (rows_of l.rows) l.initial.ledger l.i l.ledger
