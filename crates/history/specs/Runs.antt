-- Document 01, 'The plain book': "Demand 3 is a single claim about the list (also called a history), not one for each call. Nobody else writes the book meanwhile. A call's pieces are read as it returns."
use Rattle.std.specs.Prelude.{ℕ, ◌≡◌, List, [], ◌∷◌, length, take, Ok}
use Rattle.laws.specs.Lists.{each}
use Rattle.events.specs.declared.Event.{Event}
use Rattle.plain.specs.declared.Piece.{Piece}
use Rattle.laws.specs.Answers.{Outcome}
use Rattle.plain.specs.Book as plain
use Rattle.plain.specs.Calls.{Call, call}
use Rattle.pieces.specs.Sheet.{pieces_of}
use Rattle.machine.specs.declared.Core.{Core}
use Rattle.calls.specs.Opening as opening
use Rattle.machine.specs.declared.Numbers.{Numbers}
use Rattle.machine.specs.View.{book_of, CalledBare, CalledOn, Blank}
use Rattle.book.specs.declared.Book.{Book}
use Rattle.book.specs.Opening as whole
use Rattle.book.specs.View.{numbers_in, Returned}
use Rattle.sheet.specs.Lent.{ReturnedOn}

-- where a history stands: the core that the last call returned, and the tables as it left them. A book by value is both in one
pub record Stand : Type 0 where
  pub core : Core
  pub numbers : Numbers

abbrev pub stand_of : Book → Stand
stand_of b = record { core = b.core; numbers = numbers_in b }

-- the plain book that it stands for
abbrev pub view : Stand → plain.Book
view s = book_of s.core s.numbers

-- where a call's pieces stand: the call has no sheet; on a lent sheet of numbers or of structs, each as at entry and as it returned; or in what it hands back
-- by value
pub data Sheet : Type 0 where
  no_sheet : Sheet
  number_sheet : List ℕ → List ℕ → Sheet
  piece_sheet : List Piece → List Piece → Sheet
  handed_back : List Piece → Sheet

-- the places of a sheet as the call returned
abbrev pub places_of : Sheet → List Piece
places_of no_sheet = []
places_of (number_sheet entry exit) = pieces_of exit
places_of (piece_sheet entry exit) = exit
places_of (handed_back xs) = xs

-- what one call returned: where the history stands, the outcome, its sheet, and how many pieces it reports
pub record Return : Type 0 where
  pub stand : Stand
  pub outcome : Outcome
  pub sheet : Sheet
  pub count : ℕ

-- "A call's pieces are read as it returns": as many as it reports, from the sheet as it returned
unfoldable pub pieces_on : Return → List Piece
pieces_on r = take r.count (places_of r.sheet)

-- one call, as its contract has it: in place, without a sheet or on a sheet of numbers; on a book by value; or on a book by value and a
-- lent sheet of structs of any length
pub data Answers : Stand → Call → Return → Type 0 where
  bare : {s z : Stand} {c : Call} {o : Outcome} {n : ℕ} → CalledBare s.core s.numbers c z.core z.numbers o n
      → Answers s c (record { stand = z; outcome = o; sheet = no_sheet; count = n })
  on_numbers : {s z : Stand} {c : Call} {entry exit : List ℕ} {o : Outcome} {n : ℕ} → CalledOn s.core s.numbers c entry z.core z.numbers exit o n
      → Answers s c (record { stand = z; outcome = o; sheet = number_sheet entry exit; count = n })
  by_value : {b after : Book} {c : Call} {o : Outcome} {xs : List Piece} → Returned b c after o xs
      → Answers (stand_of b) c (record { stand = stand_of after; outcome = o; sheet = handed_back xs; count = length xs })
  lent : {b after : Book} {e : Event} {entry exit : List Piece} {o : Outcome} {n : ℕ} → ReturnedOn b e entry exit after o n
      → Answers (stand_of b) (call e (length entry)) (record { stand = stand_of after; outcome = o; sheet = piece_sheet entry exit; count = n })

-- a list of calls, each with the core that the one before returned and the tables as it left them, and what each returned
pub data Runs : Stand → List Call → List Return → Type 0 where
  stop : {s : Stand} → Runs s [] []
  step : {s : Stand} {c : Call} {r : Return} {cs : List Call} {rs : List Return} → Answers s c r → Runs r.stand cs rs → Runs s (c ∷ cs) (r ∷ rs)

-- where the history stands after the last call
unfoldable pub last : Stand → List Return → Stand
last s [] = s
last s (r ∷ rs) = last r.stand rs

-- all pieces handed out, read from each call's sheet as it returned
unfoldable pub sheets : List Return → List Piece
sheets rs = each pieces_on rs

-- a list of calls that leads from one place to another: what each returned, and that the last left the history there
pub record RunsTo (s : Stand) (cs : List Call) (z : Stand) : Type 0 where
  pub returns : List Return
  pub runs : Runs s cs returns
  pub end : last s returns ≡ z

-- where a history begins: with what opening answered to the bytes of a register that it did not refuse; in place, with blank numbers for the
-- tables, or as one value
pub data Begins (bytes : List ℕ) : Stand → Type 0 where
  in_place : {b : Core} {a : Numbers} → opening.OpenedOn bytes (Ok b) → Blank a → Begins bytes (record { core = b; numbers = a })
  as_one_value : {b : Book} → whole.OpenedOn bytes (Ok b) → Begins bytes (stand_of b)
