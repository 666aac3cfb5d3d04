use native.Mathlib.Omega.{arith}
use Prim.Native.Nat.{ℕ, ◌-◌, ◌<◌, ◌≤◌}
use mathlib.Core.Path.{◌≡◌, ap, sym, ◌∙◌}
use mathlib.Core.List.{List}
use lib.ListN.{length, get_or}
use Rattle.plain.specs.declared.Position.{Position}
use Rattle.plain.specs.declared.Piece.{Piece}
use Rattle.plain.specs.Book.{no_position}
use Rattle.tables.specs.Tables.{pieces}
use Rattle.rows.specs.Rows.{rows_of}
use Rattle.pieces.specs.Sheet.{pieces_of, no_piece}
use Rattle.tables.specs.Lent.{position_table, piece_table}
use Rattle.ledger.specs.Tabled.{Paired, Priceable}
use Rattle.ledger.specs.Settling.{highest_long}
use Rattle.ledger.proofs.Elements.{element, position_at}
use Rattle.ledger.proofs.Settling.{highest_one, highest_end}
use Rattle.ledger.proofs.highest_reference.Goals as goal
use Rattle.ledger.proofs.highest_reference.Invariants.{reference_of}

module _ (rows sheet : List ℕ) (held dealt : ℕ) (h : Priceable (piece_table sheet dealt) (position_table rows held)) where
  long : dealt ≤ length (pieces_of sheet)
  long = omega (arith, h.pieces_fit.places, h.pieces_fit.held)

  module _ (i : ℕ) (less : i < dealt) where
    abbrev piece_at : Piece
    piece_at = get_or (pieces_of sheet) i no_piece

    paired : Paired held piece_at
    unfolding pieces
    paired = element (Paired _) _ _ no_piece _ long less h.paired

    reference_is : (number : ℕ) → number ≡ piece_at.long → (row : Position) → row ≡ get_or (rows_of rows) (number - 1) no_position → row.reference ≡ reference_of (position_table rows held) piece_at
    reference_is number same row e =
        let there = sym (position_at (position_table rows held) piece_at.long paired.long) in
        ap (λ (q : Position). q.reference) ((rw same at e) ∙ there)

pub overflow_sub-place : goal.overflow_sub-place
overflow_sub-place c =
    omega (arith, c.long_at-number.ensures, (paired _ _ _ _ c.requires _ c.loop-i-test.true).long.above)

pub row_at-long-requires : goal.row_at-long-requires
row_at-long-requires c =
    let p = paired _ _ _ _ c.requires _ c.loop-i-test.true in
    omega (arith, c.long_at-number.ensures, p.long.above, p.long.below, c.requires.positions_fit.held)

pub loop-i-preserved : goal.loop-i-preserved
loop-i-preserved c =
    let same = reference_is _ _ _ _ c.requires _ c.loop-i-test.true _ c.long_at-number.ensures _ c.row_at-long.ensures in
    highest_one _ _ _ (long _ _ _ _ c.requires) _ _ c.loop-i.invariant no_piece _ c.loop-i-test.true (grind (arith, same))

pub returns : goal.returns
unfolding highest_long pieces
returns c =
    highest_end _ _ _ (long _ _ _ _ c.requires) _ _ c.loop-i.invariant c.loop-i-test.false
