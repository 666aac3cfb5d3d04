-- A list that is filled from its first place on with the elements of another, and a sheet with the numbers of pieces.
use Prim.Native.Nat.{ℕ, ◌+◌, ◌≤◌, ◌<◌}
use native.Mathlib.Numerals.{add-one}
use native.Mathlib.Omega.{arith}
use mathlib.Core.Path.{◌≡◌, sym, ◌∙◌}
use mathlib.Core.List.{List, append-nil}
use lib.ListN.{length, get_or, take, set, drop_of_length-le}
use lib.Seq.{take_all, take-suc, take-suc-set, get_or-set_same, set-set}
use Rattle.laws.specs.Limits.{PLACES, SHEET_CELLS}
use Rattle.laws.specs.Lists.{each}
use Rattle.plain.specs.declared.Piece.{Piece}
use Rattle.pieces.specs.Sheet.{cells_of, pieces_of, unpriced, no_piece, PutPiece, PutCents}
use Rattle.pieces.proofs.Cells.{length_pieces}
use Rattle.pieces.proofs.Filled.{Filled}

module _ {A : Type 0} (xs ys : List A) where
  -- one place more
  pub filled_next : (i : ℕ) (d : A) → i < length xs → i < length ys → take i xs ≡ take i ys → take (i + 1) (set xs i (get_or ys i d)) ≡ take (i + 1) ys
  filled_next i d h l e = rw (add-one, take-suc-set, take-suc ys i d, e)

  -- all places
  pub filled : (n : ℕ) → length xs ≤ n → length ys ≤ n → take n xs ≡ take n ys → xs ≡ ys
  filled n h l e = sym (take_all n xs h) ∙ e ∙ take_all n ys l

-- a sheet that is filled with the pieces of a list
module _ (items : List Piece) (long : length items ≡ PLACES) where
  -- a piece that is put and then given its cents
  pub piece_next : (i : ℕ) (d : Piece) → i < PLACES
      → let x = get_or items i d in
      (before between after : List ℕ) → take i (pieces_of before) ≡ take i items → PutPiece before i (unpriced x.manner x.short x.long x.quantity) between → PutCents between i x.cents after
      → take (i + 1) (pieces_of after) ≡ take (i + 1) items
  piece_next i d inside before between after e p q =
      let x : Piece = get_or items i d in
      let here : i < length (pieces_of before) = omega (arith, length_pieces before) in
      let whole : pieces_of after ≡ set (pieces_of before) i (get_or items i d) =
      q.pieces ∙ rw (p.pieces, get_or-set_same (pieces_of before) i (unpriced x.manner x.short x.long x.quantity) no_piece here, set-set) in
      rw whole (filled_next (pieces_of before) items i d here (omega (arith, long)) e)

  -- all of them are its numbers
  pub all_cells : (sheet s : List ℕ) → length s ≡ SHEET_CELLS → pieces_of sheet ≡ items → Filled PLACES sheet s → sheet ≡ each cells_of items
  all_cells sheet s size same fills =
      fills
      ∙ rw (same, take_all PLACES items (omega (arith, long)), long, drop_of_length-le s {i = SHEET_CELLS} (omega (arith, size))) (append-nil (each cells_of items))
