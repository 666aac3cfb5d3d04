-- One event, by the call of its kind: what the ten calls answer, as one.
use Rattle.std.specs.Prelude.{ℕ, ◌≡◌, []}
use Rattle.laws.specs.Answers.{Outcome}
use Rattle.events.specs.declared.Event.{Event}
use Rattle.plain.specs.Calls.{call}
use Rattle.tables.specs.Tables as table
use Rattle.book.specs.declared.Book.{Book}
use Rattle.book.specs.declared.Discharged.{Discharged}
use Rattle.book.specs.View.{Returned}

-- an outcome without pieces: an empty table of pieces beside it
pub record WithoutPieces (o : Outcome) (r : Discharged) : Type 0 where
  pub outcome : r.outcome ≡ o
  pub pieces : table.pieces r.pieces ≡ []
  pub pieces_fit : table.PiecesFit r.pieces

-- what the call of an event leaves of the book and answers, of whatever kind it is, where a sheet of so many places is lent
pub record Stepped (b : Book) (e : Event) (sheet : ℕ) (after : Book) (r : Discharged) : Type 0 where
  pub returned : Returned b (call e sheet) after r.outcome (table.pieces r.pieces)
  pub pieces_fit : table.PiecesFit r.pieces
