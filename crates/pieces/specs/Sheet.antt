-- A sheet of pieces as numbers: five for each piece, in the order of its parts.
use Rattle.std.specs.Prelude.{ℕ, ◌+◌, ◌*◌, ◌%◌, ◌≡◌, List, [], ◌∷◌, ◌++◌, cond, length, get_or, drop, set, eqb}
use Rattle.std.proofs.lemmas.List.Edits.{sets}
use Rattle.laws.specs.Limits.{PIECE_WIDTH, PLACES, SHEET_CELLS}
use Rattle.laws.specs.Lists.{each}
use Rattle.cells.specs.Table.{table_from}
use Rattle.plain.specs.declared.Piece.{Piece}
use Rattle.plain.specs.declared.Manner.{Manner}
use Rattle.plain.specs.declared.Manner.TheVariants.{Delivered, BoughtIn, Cash, Paired}
use Rattle.plain.specs.Dealing.{manner_number}

-- the manner that a number stands for
abbrev pub manner_numbered : ℕ → Manner
manner_numbered n = cond (eqb n 2) BoughtIn (cond (eqb n 3) Cash (cond (eqb n 4) Paired Delivered))

-- the piece whose five numbers begin at a place of the list
abbrev pub piece_from : List ℕ → ℕ → Piece
piece_from xs at =
    record {
      short = get_or xs at 0 % 65536;
      long = get_or xs (at + 1) 0 % 65536;
      quantity = get_or xs (at + 2) 0 % 4294967296;
      manner = manner_numbered (get_or xs (at + 3) 0);
      cents = get_or xs (at + 4) 0;
    }

-- the 1,024 places
unfoldable pub pieces_of : List ℕ → List Piece
pieces_of xs = table_from PIECE_WIDTH PLACES piece_from xs

-- "short, long, quantity, manner (delivered, bought in, cash), cents": the numbers of a piece
abbrev pub cells_of : Piece → List ℕ
cells_of x = x.short ∷ x.long ∷ x.quantity ∷ manner_number x.manner ∷ x.cents ∷ []

-- "The pieces fill the first places of a lent sheet of at least 1,024 places; later places keep their content."
abbrev pub sheet_with : List Piece → List ℕ → List ℕ
sheet_with xs sheet = each cells_of xs ++ drop (PIECE_WIDTH * length xs) sheet

-- a piece before it is priced
abbrev pub unpriced : Manner → ℕ → ℕ → ℕ → Piece
unpriced m short long units = record { short = short; long = long; quantity = units; manner = m; cents = 0 }

-- what is read where there is no piece
abbrev pub no_piece : Piece
no_piece = unpriced Delivered 0 0 0

-- a piece with other cents
abbrev pub with_cents : ℕ → Piece → Piece
with_cents cents x = record { short = x.short; long = x.long; quantity = x.quantity; manner = x.manner; cents = cents }

-- a piece put at a place: its five numbers are stored there, and no other number changes
pub record PutPiece (sheet : List ℕ) (place : ℕ) (x : Piece) (after : List ℕ) : Type 0 where
  pub cells : after ≡ sets sheet (PIECE_WIDTH * place) (cells_of x)
  pub pieces : pieces_of after ≡ set (pieces_of sheet) place x
  pub size : length after ≡ SHEET_CELLS

-- the cents of the piece at a place, the last of its numbers
pub record PutCents (sheet : List ℕ) (place cents : ℕ) (after : List ℕ) : Type 0 where
  pub cells : after ≡ set sheet (PIECE_WIDTH * place + 4) cents
  pub pieces : pieces_of after ≡ set (pieces_of sheet) place (with_cents cents (get_or (pieces_of sheet) place no_piece))
  pub size : length after ≡ SHEET_CELLS
