-- Document 01, 'Event files and the player': a file of events played on a new book.
use Rattle.std.specs.Prelude.{ℕ, zero, suc, ◌≡◌, refl, List, [], ◌∷◌, Result, Ok, IfOk, IfErr}
use Rattle.std.proofs.Common.{arith, ◌∙◌, ne_eqb}
use Rattle.laws.specs.Answers.{number_with, value_in}
use Rattle.laws.specs.Refusals.{◌⇒◌, choose, first}
use Rattle.laws.specs.declared.TurnedDown.{TurnedDown}
use Rattle.laws.specs.WordLaws.{nonzero}
use Rattle.register.specs.Register.{register_read}
use Rattle.events.specs.declared.Event.{Event}
use Rattle.files.specs.File.{refusal, events_of}
use Rattle.plain.specs.Book.{Book, opening_read, new}
use Rattle.plain.specs.Calls.{Call}
use Rattle.plain.specs.Histories.{calls_of, next, pieces, run}
use Rattle.pieces.specs.Sheet.{sheet_with}
use Rattle.machine.specs.declared.Core.{Core}
use Rattle.calls.specs.Opening.{OpenedOn, OpensAs}
use Rattle.machine.specs.declared.Numbers.{Numbers}
use Rattle.machine.specs.View.{book_of, Held}
use Rattle.book.specs.declared.Book as whole
use Rattle.book.specs.View.{view, Valid}
use Rattle.history.specs.Runs.{Stand, stand_of, RunsTo, Begins}

-- the refusals 1 to 4 of the register, then 5 to 7 of the file, all before any event is played
unfoldable pub replay_refusal : List ℕ → List ℕ → ℕ
replay_refusal register file =
    first
    ((nonzero (register_read register).number ⇒ (register_read register).number)
    ∷ (nonzero (refusal file) ⇒ refusal file)
    ∷ [])

-- the core that opening answered to a register, refused or not, and the book that it stands for. Where the file alone is refused calls may be made on it.
pub record OpenedCore (register : List ℕ) (core : Core) : Type 0 where
  pub book : OpensAs core (new (opening_read register))
  pub opened : ((o : Result Core (TurnedDown Core)) × (OpenedOn register o) × (value_in o ≡ core))

-- what is answered before any event is played: the core that opening answered to the register, or the refusal, with that core beside it
pub record ReadyFor (register file : List ℕ) (r : Result Core (TurnedDown Core)) : Type 0 where
  pub number : number_with r ≡ replay_refusal register file
  pub opened : IfOk r (λ core. OpenedOn register (Ok core))
  pub unread : IfErr r (λ t. OpenedCore register t.value)

-- what playing some events on a core with its numbers leaves: the calls of the events were made, one after the other
pub record PlayedUpTo (b : Core) (a : Numbers) (events : List Event) (after : Core) (z : Numbers) : Type 0 where
  pub held : Held after z
  pub runs : RunsTo (record { core = b; numbers = a }) (calls_of events) (record { core = after; numbers = z })
  pub book : book_of after z ≡ run (book_of b a) (calls_of events)

-- a sheet of numbers after calls that were made on it, one after the other: "The pieces fill the first places of a lent sheet ..; later places keep their
-- content", call by call
unfoldable pub sheet_after : Book → List Call → List ℕ → List ℕ
sheet_after b [] sheet = sheet
sheet_after b (c ∷ cs) sheet = sheet_after (next b c) cs (sheet_with (pieces b c) sheet)

-- events played on a new book: the calls of the events were made from what opening answered to the register
pub record PlayedFrom (register : List ℕ) (events : List Event) (z : Stand) : Type 0 where
  pub start : Stand
  pub begins : Begins register start
  pub runs : RunsTo start (calls_of events) z

-- a book after all events of the file, which further calls take
pub record Replayed (register file : List ℕ) (b : whole.Book) : Type 0 where
  pub book : view b ≡ run (new (opening_read register)) (calls_of (events_of file))
  pub valid : Valid b
  pub played : PlayedFrom register (events_of file) (stand_of b)

-- what replaying answers: such a book, or the refusal, with the new book after no event beside it
pub record ReplayedFrom (register file : List ℕ) (r : Result whole.Book (TurnedDown whole.Book)) : Type 0 where
  pub number : number_with r ≡ replay_refusal register file
  pub replayed : IfOk r (Replayed register file)
  pub unplayed : IfErr r (λ t. view t.value ≡ new (opening_read register))

-- a number that refuses where it is not 0 decides
pub deciding : (n : ℕ) → n ≡ first ((nonzero n ⇒ n) ∷ [])
deciding zero = refl
deciding (suc n) = rw (ne_eqb (suc n) 0 (λ z. omega arith))

-- before any other reason too: a number that is not 0 is the refusal, and where nothing is refused it is 0
pub decides : (n rest : ℕ) → (n ≡ 0 → ⊥) → choose (nonzero n) n rest ≡ n
decides zero rest h = absurd (h refl)
decides (suc n) rest h = rw (ne_eqb (suc n) 0 (λ z. omega arith))

pub passed_zero : (n rest : ℕ) → choose (nonzero n) n rest ≡ 0 → n ≡ 0
passed_zero zero rest e = refl
passed_zero (suc n) rest e = absurd (omega (arith, decides (suc n) rest (λ z. omega arith), e))

-- where neither is refused, the file is not
second_zero : (a b : ℕ) → first ((nonzero a ⇒ a) ∷ (nonzero b ⇒ b) ∷ []) ≡ 0 → b ≡ 0
second_zero zero b e = deciding b ∙ e
second_zero (suc a) b e = absurd (omega (arith, passed_zero (suc a) (first ((nonzero b ⇒ b) ∷ [])) e))

-- and the register is not
pub passing_register : (register file : List ℕ) → replay_refusal register file ≡ 0 → (register_read register).number ≡ 0
unfolding replay_refusal
passing_register register file e = passed_zero (register_read register).number (first ((nonzero (refusal file) ⇒ refusal file) ∷ [])) e

pub passing_file : (register file : List ℕ) → replay_refusal register file ≡ 0 → refusal file ≡ 0
unfolding replay_refusal
passing_file register file e = second_zero (register_read register).number (refusal file) e
