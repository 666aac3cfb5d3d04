-- `ledger::post_award_fines` meets its contract: what is posted so far, with what is still to come, is the whole.
use mathlib.Core.List.{List}
use Rattle.register.specs.declared.Register.{Register}
use Rattle.plain.specs.declared.Award.{Award}
use Rattle.plain.specs.Charging.{Charge, award_fines}
use Rattle.tables.specs.Tables as tables
use Rattle.tables.specs.Tables.{Positions, positions, awards}
use Rattle.tables.specs.declared.Prices.{Prices}
use Rattle.rows.specs.Rows.{awards_of}
use Rattle.tables.specs.Lent.{position_table}
use Rattle.ledger.specs.Parts.{book_of}
use Rattle.ledger.proofs.Posting.{PostingAt}
use Rattle.ledger.proofs.post_award_fines.Given as goal

abbrev pub fines_of : Positions → Prices → Register → Award → List Charge
fines_of p prices register = award_fines (book_of register 0 (tables.prices prices) (positions p))

abbrev pub invariant-loop-i : goal.invariant-loop-i
invariant-loop-i l =
    PostingAt (fines_of (position_table l.rows l.held) l.prices l.register) l.awarded (awards_of l.awards) l.initial.ledger l.i l.ledger
