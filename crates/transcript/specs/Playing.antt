-- What the functions that write the transcript's blocks answer.
use Rattle.std.specs.Prelude.{ℕ, ◌+◌, ◌-◌, ◌*◌, ◌≤◌, ◌<◌, min, max, ◌≡◌, List, length, take, drop, Result, Ok, IfOk, IfErr}
use Rattle.laws.specs.Answers.{number_with}
use Rattle.laws.specs.declared.TurnedDown.{TurnedDown}
use Rattle.events.specs.declared.Event.{Event}
use Rattle.files.specs.File.{events_of}
use Rattle.machine.specs.declared.Core.{Core}
use Rattle.calls.specs.Opening.{OpenedOn}
use Rattle.machine.specs.declared.Numbers.{Numbers}
use Rattle.machine.specs.View.{book_of}
use Rattle.replay.specs.Replay.{OpenedCore, PlayedUpTo}
use Rattle.report.specs.Lines.{LINE}
use Rattle.report.specs.Pages.{Put}
use Rattle.transcript.specs.declared.Started.{Started}
use Rattle.transcript.specs.declared.Played.{Played}
use Rattle.transcript.specs.Transcript.{register_length, register_in, events_text, input_refusal}

-- an input that is not refused: where its file begins, and the core that opening answered to its register
pub record Ready (input : List ℕ) (s : Started) : Type 0 where
  pub file : s.file ≡ min (register_length input) (length input)
  pub opened : OpenedOn (register_in input) (Ok s.core)

-- one that is refused: the same, of a register that may be refused
pub record Unready (input : List ℕ) (s : Started) : Type 0 where
  pub file : s.file ≡ min (register_length input) (length input)
  pub unread : OpenedCore (register_in input) s.core

-- what is answered before the first event: the one, or the refusal with the other beside it
pub record StartedOn (input : List ℕ) (r : Result Started (TurnedDown Started)) : Type 0 where
  pub number : number_with r ≡ input_refusal input
  pub ready : IfOk r (Ready input)
  pub unready : IfErr r (λ t. Unready input t.value)

-- the most bytes that an event prints: its line, and those of 1,024 pieces
abbrev pub BLOCK : ℕ
BLOCK = LINE * 1025

-- the bytes that a page has for the end's lines: 1,024 positions and 64 accounts
abbrev pub END : ℕ
END = LINE * 1088

-- the events of a file from one place up to another
abbrev pub between : List ℕ → ℕ → ℕ → List Event
between file from to = take (to - from) (drop from (events_of file))

-- Events of a file, played from a place on, while the page has room for one more. How many they are is left free (`next`): at least one, where there
-- is one and the page has room for it. The core and the numbers are those after them, and the page's first bytes are their text.
pub record PlayedOn (file : List ℕ) (b : Core) (a : Numbers) (from : ℕ) (entry exit : List ℕ) (z : Numbers) (r : Played) : Type 0 where
  pub reached : from ≤ r.next
  pub within : r.next ≤ max from (length (events_of file))
  pub text : Put (events_text (book_of b a) (from + 1) (between file from r.next)) entry exit r.used
  pub fits : r.used ≤ length entry
  -- it follows from the text's length, and spares a caller the proof of that
  pub most : r.used ≤ BLOCK * (r.next - from)
  pub played : PlayedUpTo b a (between file from r.next) r.core z
  pub further : from < length (events_of file) → BLOCK ≤ length entry → from < r.next
