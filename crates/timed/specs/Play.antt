-- A whole play in a lent page.
use Rattle.std.specs.Prelude.{ℕ, ◌+◌, ◌*◌, ◌≡◌, List, ◌++◌, length}
use Rattle.laws.specs.Refusals.{accepted}
use Rattle.events.specs.declared.Event.{Event}
use Rattle.plain.specs.Book as plain
use Rattle.report.specs.Lines.{LINE}
use Rattle.report.specs.Pages.{Put}
use Rattle.transcript.specs.Transcript.{input_refusal, events_in}
use Rattle.transcript.specs.Playing.{BLOCK, END}
use Rattle.transcript.specs.Whole.{left}

-- The text of the events before the i-th stands in a page's first bytes: with what is left after them, it is all that is to be printed.
pub record Begun (es : List Event) (b : plain.Book) (entry page : List ℕ) (after : plain.Book) (i bytes : ℕ) : Type 0 where
  pub text : List ℕ
  pub put : Put text entry page bytes
  pub rest : text ++ left es after i ≡ left es b 0

-- the bytes that a page has for what the player prints for an input: for each event and for the end, or for the line of a refusal
unfoldable pub room_for : List ℕ → ℕ
room_for input = accepted (input_refusal input) (BLOCK * length (events_in input) + END) LINE
