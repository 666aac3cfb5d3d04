-- What a book as one value stands for, what holds of every book that the calls hand out, and what a call returns.
use Rattle.std.specs.Prelude.{◌≡◌, ◌≢◌, List}
use Rattle.plain.specs.declared.Piece.{Piece}
use Rattle.laws.specs.Answers.{Outcome}
use Rattle.plain.specs.Book as plain
use Rattle.plain.specs.Calls.{Call}
use Rattle.plain.specs.Refusals.{refusal}
use Rattle.plain.specs.Histories.{next, pieces, quantity}
use Rattle.machine.specs.declared.Core.{Core}
use Rattle.machine.specs.declared.Numbers.{Numbers}
use Rattle.machine.specs.View.{book_of, Held}
pub use Rattle.laws.specs.Answers.{answer, number_in, quantity_of}
use Rattle.book.specs.declared.Book.{Book}

-- what is lent beside its core
abbrev pub numbers_in : Book → Numbers
numbers_in b = b.lent

-- the plain book that it stands for
unfoldable pub view : Book → plain.Book
view b = book_of b.core (numbers_in b)

-- what holds of every book that is handed out; the fields are private, so there is no other
pub record Valid (b : Book) : Type 0 where
  pub held : Held b.core (numbers_in b)

-- what the call c on the book b returns: the book after it, its outcome and its pieces
pub record Returned (b : Book) (c : Call) (after : Book) (o : Outcome) (xs : List Piece) : Type 0 where
  pub outcome : o ≡ answer (refusal (view b) c) (quantity (view b) c)
  pub pieces : xs ≡ pieces (view b) c
  pub book : view after ≡ next (view b) c
  pub valid : Valid after
  -- "A refused call changes nothing"
  pub kept : refusal (view b) c ≢ 0 → after ≡ b
