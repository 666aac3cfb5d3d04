-- Document 01, 'Event files and the player': everything that the player prints for an input, byte for byte.
use Rattle.std.specs.Prelude.{ℕ, suc, ◌+◌, ◌*◌, List, [], ◌∷◌, ◌++◌, take, drop}
use Rattle.laws.specs.Limits.{PLACES}
use Rattle.laws.specs.Refusals.{accepted}
use Rattle.laws.specs.Words.{word16_at}
use Rattle.events.specs.declared.Event.{Event}
use Rattle.files.specs.File.{events_of}
use Rattle.plain.specs.Book.{Book, opening_read, new}
use Rattle.plain.specs.Calls.{call}
use Rattle.plain.specs.Refusals.{refusal}
use Rattle.plain.specs.Histories.{next, pieces, quantity, run, calls_of}
use Rattle.replay.specs.Replay.{replay_refusal}
use Rattle.report.specs.Lines.{event_lines, position_lines, account_lines, refusal_line}

-- "The register is the first 2 plus 13 times its count bytes (refusal 1 if the input is shorter), the file all the rest."
-- Of an input that is shorter all is the register, and its length is wrong.
abbrev pub register_length : List ℕ → ℕ
register_length input = 2 + 13 * word16_at input 0

abbrev pub register_in : List ℕ → List ℕ
register_in input = take (register_length input) input

abbrev pub file_in : List ℕ → List ℕ
file_in input = drop (register_length input) input

-- the refusal, 1 to 7, or 0
unfoldable pub input_refusal : List ℕ → ℕ
input_refusal input = replay_refusal (register_in input) (file_in input)

-- "Each event prints `e`, its number, refusal or 0, quantity ..; each piece `p`"; each call has a sheet of 1,024 places
unfoldable pub event_text : Book → ℕ → Event → List ℕ
event_text b number e = event_lines number (refusal b (call e PLACES)) (quantity b (call e PLACES)) (pieces b (call e PLACES))

-- events one after the other, numbered from the given number
unfoldable pub events_text : Book → ℕ → List Event → List ℕ
events_text b number [] = []
events_text b number (e ∷ es) = event_text b number e ++ events_text (next b (call e PLACES)) (suc number) es

-- "At the end, both by rising number: positions ..; non-zero accounts"
unfoldable pub end_text : Book → List ℕ
end_text b = position_lines b.positions ++ account_lines b.ledger

-- the book before the first event, and the events
abbrev pub opened : List ℕ → Book
opened input = new (opening_read (register_in input))

abbrev pub events_in : List ℕ → List Event
events_in input = events_of (file_in input)

-- "Input refused by 1 to 7 prints `f` and the number only."
unfoldable pub transcript : List ℕ → List ℕ
transcript input =
    accepted (input_refusal input)
    (events_text (opened input) 1 (events_in input) ++ end_text (run (opened input) (calls_of (events_in input))))
    (refusal_line (input_refusal input))
