-- Document 01, 'Register and day': the book that opens on a register's bytes.
use Rattle.std.specs.Prelude.{ℕ, ◌≡◌, List, Result, IfOk, IfErr, replicate}
use Rattle.laws.specs.Answers.{number_with}
use Rattle.laws.specs.Limits.{ACCOUNTS, AWARD_CELLS, COUNT_CELLS, POSITION_CELLS, SECURITIES, TRADE_CELLS}
use Rattle.laws.specs.declared.TurnedDown.{TurnedDown}
use Rattle.register.specs.Register.{register_read}
use Rattle.plain.specs.Book.{Book, opening_read, new}
use Rattle.machine.specs.declared.Core.{Core}
use Rattle.machine.specs.declared.Numbers.{Numbers}
use Rattle.machine.specs.View.{numbers, book_of, Held, Blank}

-- what is lent with a new book
unfoldable pub no_numbers : Numbers
no_numbers =
    numbers (replicate POSITION_CELLS 0) (replicate TRADE_CELLS 0) (replicate AWARD_CELLS 0) (replicate COUNT_CELLS 0) (replicate SECURITIES 0) (replicate SECURITIES 0)
    (record { credits = replicate ACCOUNTS 0; debits = replicate ACCOUNTS 0 })

-- a core that no call was made on yet: calls may be made on it with any blank numbers, with which it stands for one plain book
abbrev pub NewlyHeld : Core → Type 0
NewlyHeld b = (a : Numbers) → Blank a → Held b a

abbrev pub OpensAs : Core → Book → Type 0
OpensAs b new = (a : Numbers) → Blank a → book_of b a ≡ new

-- the core of a register's bytes: "A new book is at business day 1 and has no trade, position or price."
pub record Opens (bytes : List ℕ) (b : Core) : Type 0 where
  pub book : OpensAs b (new (opening_read bytes))
  pub held : NewlyHeld b

-- what opening answers to the bytes of a register: such a core, or refusal 1 to 4. Where the bytes are refused the register read is the empty one, and the core of it
-- stands beside the reason; it is not held: no call takes it.
pub record OpenedOn (bytes : List ℕ) (r : Result Core (TurnedDown Core)) : Type 0 where
  pub number : number_with r ≡ (register_read bytes).number
  pub opened : IfOk r (Opens bytes)
  pub empty : IfErr r (λ t. OpensAs t.value (new (opening_read bytes)))
