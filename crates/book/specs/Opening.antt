-- Document 01, 'Register and day': the book that opens on a register's bytes.
use Rattle.std.specs.Prelude.{ℕ, ◌≡◌, List, Result, IfOk, IfErr}
use Rattle.laws.specs.Answers.{number_with}
use Rattle.laws.specs.declared.TurnedDown.{TurnedDown}
use Rattle.register.specs.Register.{register_read}
use Rattle.plain.specs.Book.{opening_read, new}
use Rattle.book.specs.declared.Book.{Book}
use Rattle.book.specs.View.{view, Valid}

-- the book of a register's bytes: "A new book is at business day 1 and has no trade, position or price."
pub record Opens (bytes : List ℕ) (b : Book) : Type 0 where
  pub book : view b ≡ new (opening_read bytes)
  pub valid : Valid b

-- what opening answers to the bytes of a register: such a book, or refusal 1 to 4. Where the bytes are refused the register read is the empty one, and the book of it
-- stands beside the reason; it is not valid: no call takes it.
pub record OpenedOn (bytes : List ℕ) (r : Result Book (TurnedDown Book)) : Type 0 where
  pub number : number_with r ≡ (register_read bytes).number
  pub opened : IfOk r (Opens bytes)
  pub empty : IfErr r (λ t. view t.value ≡ new (opening_read bytes))
