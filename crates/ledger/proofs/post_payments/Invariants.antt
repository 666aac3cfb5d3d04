-- `ledger::post_payments` meets its contract: the pieces before the place are priced and paid for, and the rest is as it was.
use mathlib.Core.Path.{◌≡◌}
use lib.ListN.{length}
use Rattle.laws.specs.Limits.{SHEET_CELLS}
use Rattle.pieces.specs.Sheet.{pieces_of}
use Rattle.pieces.proofs.Filled.{StaysFilled}
use Rattle.tables.specs.Lent.{position_table}
use Rattle.plain.specs.Charging.{priced_at}
use Rattle.ledger.proofs.Posting.{PostingAt}
use Rattle.ledger.specs.Settling.{payment_at}
use Rattle.ledger.proofs.Settling.{Changing}
use Rattle.ledger.proofs.post_payments.Given as goal

abbrev pub invariant-loop-i : goal.invariant-loop-i
invariant-loop-i l =
    (Changing (priced_at l.price) l.dealt (pieces_of l.initial.sheet) l.i (pieces_of l.sheet))
    × (PostingAt (payment_at l.price (position_table l.rows l.held)) l.dealt (pieces_of l.initial.sheet) l.initial.ledger l.i l.ledger) × (length l.sheet ≡ SHEET_CELLS) × StaysFilled l.dealt l.initial.sheet l.dealt l.sheet
