-- Document 01, 'Discharge and pieces': what a call returns on a sheet that is lent.
use Rattle.std.specs.Prelude.{ℕ, ◌≡◌, ◌≢◌, List, ◌++◌, length, take, drop}
use Rattle.events.specs.declared.Event.{Event}
use Rattle.plain.specs.declared.Piece.{Piece}
use Rattle.laws.specs.Answers.{Outcome}
use Rattle.plain.specs.Calls.{call}
use Rattle.plain.specs.Refusals.{refusal}
use Rattle.plain.specs.Histories.{pieces}
use Rattle.book.specs.declared.Book.{Book}
use Rattle.book.specs.View.{view, Returned}

-- "The pieces fill the first places of a lent sheet of at least 1,024 places; later places keep their content": the event e on the book b,
-- with the sheet ys at entry and zs at exit, and the book, the outcome and the number of pieces that it answers
pub record ReturnedOn (b : Book) (e : Event) (ys zs : List Piece) (after : Book) (o : Outcome) (n : ℕ) : Type 0 where
  -- the pieces are those that stand in the sheet as it returns, as many as it says
  pub returned : Returned b (call e (length ys)) after o (take n zs)
  pub count : n ≡ length (pieces (view b) (call e (length ys)))
  -- the plain book's pieces, and after them the places as at entry
  pub sheet : zs ≡ pieces (view b) (call e (length ys)) ++ drop n ys
  -- "A refused call changes nothing": the whole sheet is as at entry
  pub kept : refusal (view b) (call e (length ys)) ≢ 0 → zs ≡ ys
