-- Document 02, Slip 7: units of a short set off against a long, over the machine's table of positions.
use Rattle.std.specs.Prelude.{ℕ, ◌≡◌, ◌≢◌, List, [], ◌∷◌, length, take}
use Rattle.laws.specs.Limits.{POSITION_CELLS, POSITIONS, SHEET_CELLS}
use Rattle.laws.specs.Asked.{Within}
use Rattle.plain.specs.declared.Manner.TheVariants.{Paired}
use Rattle.plain.specs.Dealing.{lowering}
use Rattle.rows.specs.Rows.{rows_of}
use Rattle.pieces.specs.Sheet.{pieces_of, sheet_with}
use Rattle.tables.specs.Lent.{row_of}
use Rattle.rows.specs.Lowering.{Lowerable}
use Rattle.positions.specs.Dealing.{piece_of}

-- what it asks of the lent table and sheet: two positions of which the units are open
pub record SettingOff (rows sheet : List ℕ) (short long quantity : ℕ) : Type 0 where
  pub short_held : Within 1 POSITIONS short
  pub long_held : Within 1 POSITIONS long
  pub apart : long ≢ short
  pub own : Lowerable (row_of rows short) quantity
  pub other : Lowerable (row_of rows long) quantity
  pub rows_length : length rows ≡ POSITION_CELLS
  pub sheet_length : length sheet ≡ SHEET_CELLS

-- and what it leaves in them: "Both fall by the quantity, one piece of manner paired and 0 cents is handed out"
pub record SetOff (rows sheet : List ℕ) (short long quantity : ℕ) (after left : List ℕ) : Type 0 where
  pub fallen : rows_of after ≡ lowering (piece_of Paired short long quantity ∷ []) (rows_of rows)
  pub piece : take 1 (pieces_of left) ≡ piece_of Paired short long quantity ∷ []
  pub filled : left ≡ sheet_with (piece_of Paired short long quantity ∷ []) sheet
  pub rows_length : length after ≡ POSITION_CELLS
  pub sheet_length : length left ≡ SHEET_CELLS
