-- `ledger::highest_reference` meets its contract: the number kept is the highest among the longs of the pieces before the place.
use Prim.Native.Nat.{ℕ}
use Rattle.plain.specs.declared.Piece.{Piece}
use Rattle.plain.specs.Book.{no_position, nth}
use Rattle.tables.specs.Tables.{Positions, positions}
use Rattle.pieces.specs.Sheet.{pieces_of}
use Rattle.tables.specs.Lent.{position_table}
use Rattle.ledger.proofs.Settling.{Highest}
use Rattle.ledger.proofs.highest_reference.Given as goal

-- the reference price of a piece's long
abbrev pub reference_of : Positions → Piece → ℕ
reference_of p x = (nth no_position (positions p) x.long).reference

abbrev pub invariant-loop-i : goal.invariant-loop-i
invariant-loop-i l =
    Highest (reference_of (position_table l.rows l.held)) l.dealt (pieces_of l.sheet) l.i l.highest
