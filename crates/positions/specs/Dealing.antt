-- Document 01, 'Discharge and pieces': a discharge of a short, dealt out over the machine's table of positions.
use Rattle.std.specs.Prelude.{ℕ, ◌≤◌, ◌<◌, min, length, get_or, ◌≡◌, List, true}
use Rattle.laws.specs.Limits.{MOST_NETTED, POSITION_CELLS, SHEET_CELLS}
use Rattle.laws.specs.Lists.{All, only}
use Rattle.plain.specs.declared.Position.{Position}
use Rattle.plain.specs.declared.Piece.{Piece}
use Rattle.plain.specs.declared.Manner.{Manner}
use Rattle.plain.specs.Book.{no_position, nth}
use Rattle.plain.specs.Dealing.{due, long_of, takers, deal_to, lowering}
use Rattle.laws.specs.Asked.{Within}
use Rattle.plain.specs.Invariants.{Rising, Whole, due_long, open_of}
use Rattle.tables.specs.Tables.{Positions}
use Rattle.tables.specs.Tables as tables
use Rattle.tables.specs.Lent.{position_table, piece_table, row_of}
use Rattle.rows.specs.Rows.{rows_of}
use Rattle.pieces.specs.Sheet.{sheet_with}
use Rattle.tables.specs.declared.Pieces.{Pieces}

-- position n of the table
abbrev pub position_of : Positions → ℕ → Position
position_of table n = nth no_position (tables.positions table) n

-- "each taking the smaller of its open quantity and what is left": what a position takes of it as a long of the security
unfoldable pub share_of : ℕ → ℕ → Position → ℕ
share_of security left p = only (long_of security p) (min p.unsettled left)

-- a piece that is dealt: pieces are priced later
abbrev pub piece_of : Manner → ℕ → ℕ → ℕ → Piece
piece_of manner short long units = record { short = short; long = long; quantity = units; manner = manner; cents = 0 }

-- "A discharge of q units of a due short", and the longs suffice
pub record Dealing (table : Positions) (day short quantity : ℕ) : Type 0 where
  pub fits : tables.PositionsFit table
  pub rising : Rising (tables.positions table)
  pub held : Within 1 table.count short
  pub is_short : (position_of table short).short ≡ true
  pub is_due : due day (position_of table short) ≡ true
  pub enough : quantity ≤ (position_of table short).unsettled
  pub suffice : quantity ≤ open_of (due_long day (position_of table short).security) (tables.positions table)
  pub whole : All Whole (tables.positions table)
  pub bounded : All (λ p. p.netted ≤ MOST_NETTED) (tables.positions table)

-- the pieces: "dealt out to due longs of that security"
abbrev pub dealt_out : Positions → ℕ → ℕ → ℕ → Manner → List Piece
dealt_out table day short quantity manner =
    deal_to manner short (takers day (position_of table short).security (tables.positions table)) quantity

-- a table after a discharge, and the discharge's pieces
pub record Dealt : Type 0 where
  pub positions : Positions
  pub pieces : Pieces

-- what a discharge by these pieces gives: the pieces, and the table whose "open quantities .. fall by each piece on both sides"
pub record HandedOut (table : Positions) (xs : List Piece) (r : Dealt) : Type 0 where
  pub pieces : tables.pieces r.pieces ≡ xs
  pub positions : tables.positions r.positions ≡ lowering xs (tables.positions table)
  pub pieces_fit : tables.PiecesFit r.pieces
  pub positions_fit : tables.PositionsFit r.positions
  pub count : r.positions.count ≡ table.count

-- by those that are dealt out
abbrev pub DealtOut : Positions → ℕ → ℕ → ℕ → Manner → Dealt → Type 0
DealtOut table day short quantity manner r = HandedOut table (dealt_out table day short quantity manner) r

-- none of the first n positions is an open long of the security
unfoldable pub ClosedBefore : ℕ → List Position → ℕ → Type 0
ClosedBefore security items n = (j : ℕ) → j < n → long_of security (get_or items j no_position) ≡ true → (get_or items j no_position).unsettled ≡ 0

-- what the walk of a discharge asks of the lent table and sheet, and of the place where it starts
pub record Walkable (rows sheet : List ℕ) (count day short quantity start : ℕ) : Type 0 where
  pub dealing : Dealing (position_table rows count) day short quantity
  pub some : 0 < quantity
  pub rows_length : length rows ≡ POSITION_CELLS
  pub sheet_length : length sheet ≡ SHEET_CELLS
  pub within : start ≤ count
  pub closed : ClosedBefore (row_of rows short).security (rows_of rows) start

-- what it leaves in them, the number of pieces, and the place where it ended
pub record Walked (rows sheet : List ℕ) (count day short quantity : ℕ) (manner : Manner) (after left : List ℕ) (pieces end : ℕ) : Type 0 where
  pub dealt : DealtOut (position_table rows count) day short quantity manner (record { positions = position_table after count; pieces = piece_table left pieces })
  pub filled : left ≡ sheet_with (dealt_out (position_table rows count) day short quantity manner) sheet
  pub rows_length : length after ≡ POSITION_CELLS
  pub sheet_length : length left ≡ SHEET_CELLS
  pub within : end ≤ count
  pub closed : ClosedBefore (row_of rows short).security (rows_of after) end
