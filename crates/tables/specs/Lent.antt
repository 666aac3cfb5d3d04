-- The tables that lent numbers stand for, of which so many places are in use.
use Rattle.std.specs.Prelude.{ℕ, ◌-◌, List, get_or}
use Rattle.plain.specs.declared.Position.{Position}
use Rattle.plain.specs.Book.{no_position}
use Rattle.rows.specs.Rows.{rows_of, trades_of, awards_of}
use Rattle.pieces.specs.Sheet.{pieces_of}
use Rattle.tables.specs.declared.Pieces.{Pieces}
use Rattle.tables.specs.Tables.{Trades, Positions, Awards}

abbrev pub position_table : List ℕ → ℕ → Positions
position_table rows count = record { items = rows_of rows; count = count }

abbrev pub trade_table : List ℕ → ℕ → ℕ → Trades
trade_table trades count netted = record { items = trades_of trades; count = count; netted = netted }

abbrev pub award_table : List ℕ → ℕ → Awards
award_table awards count = record { items = awards_of awards; count = count }

abbrev pub piece_table : List ℕ → ℕ → Pieces
piece_table sheet count = record { items = pieces_of sheet; count = count }

-- the position of a number, as its row has it
abbrev pub row_of : List ℕ → ℕ → Position
row_of rows number = get_or (rows_of rows) (number - 1) no_position
