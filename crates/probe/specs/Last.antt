-- What the last event of a file answers and prints, on a book that was closed so many times before the first event. Tests ask for it: a file
-- has at most 2,048 events, so that the last day can't be reached by a file alone, and the player plays each call as on a sheet of 1,024
-- places. This shows refusals 8 and 26, and the lines of a call on a lent sheet.
use Rattle.std.specs.Prelude.{ℕ, ◌+◌, ◌-◌, ◌<◌, ◌≡◌, refl, cond, List, [], ◌++◌, ltb, length, get_or, take, replicate}
use Rattle.std.proofs.Math.Nat.{sub-zero}
use Rattle.std.proofs.Common.{arith, take_all, lt-ltb}
use Rattle.laws.specs.Lists.{only}
use Rattle.laws.specs.Refusals.{accepted}
use Rattle.events.specs.declared.Event.{Event}
use Rattle.events.specs.declared.Event.TheVariants as event
use Rattle.laws.specs.Answers.{Outcome, answer}
use Rattle.plain.specs.Book.{Book}
use Rattle.plain.specs.Calls.{Call, call}
use Rattle.plain.specs.Refusals.{refusal}
use Rattle.plain.specs.Histories.{run, quantity, calls_of}
use Rattle.transcript.specs.Transcript.{input_refusal, opened, events_in, event_text, events_text}
use Rattle.transcript.specs.Texts.{text_more}

-- a close as a call: it has no use for a sheet
abbrev pub closing : Call
closing = call event.Close 0

-- a book after so many closes, the refused ones included
abbrev pub after_closes : Book → ℕ → Book
after_closes b closes = run b (replicate closes closing)

-- the last of some events, and the call that it makes
abbrev pub last_event : List Event → Event
last_event events = get_or events (length events - 1) event.Close

abbrev pub last_call : List Event → ℕ → Call
last_call events sheet = call (last_event events) sheet

-- a book after all of some events but the last
abbrev pub before_last : Book → List Event → Book
before_last b events = run b (calls_of (take (length events - 1) events))

-- the refusal number of the last of some events, and its quantity: on a book that made so many closes and then all events before the last with
-- sheets of 1,024 places. Both are 0 where there is no event.
abbrev pub last_number : Book → ℕ → List Event → ℕ → ℕ
last_number b closes events sheet =
    only (ltb 0 (length events)) (refusal (before_last (after_closes b closes) events) (last_call events sheet))

abbrev pub last_quantity : Book → ℕ → List Event → ℕ → ℕ
last_quantity b closes events sheet =
    only (ltb 0 (length events)) (quantity (before_last (after_closes b closes) events) (last_call events sheet))

-- what it answers
abbrev pub LastAnswered : Book → ℕ → List Event → ℕ → Outcome → Type 0
LastAnswered b closes events sheet o = o ≡ answer (last_number b closes events sheet) (last_quantity b closes events sheet)

-- its lines alone, numbered as in the text of all events; those before it are played and not shown. No event has no text.
unfoldable pub last_text : Book → List Event → List ℕ
last_text b events = cond (ltb 0 (length events)) (event_text (before_last b events) (length events) (last_event events)) []

-- the text of some events ends in that of the last
pub last_ends : (b : Book) (events : List Event) → 0 < length events → events_text b 1 events ≡ events_text b 1 (take (length events - 1) events) ++ last_text b events
unfolding last_text
last_ends b events some =
    let to = length events - 1 in
    let next : to + 1 ≡ length events = omega (arith, some) in
    let ends = text_more events 0 to event.Close (last_event events) (omega arith) (omega (arith, some)) refl b in
    rw (lt-ltb 0 (length events) some) (rw (sub-zero (to + 1), sub-zero to, next, take_all (length events) events (omega arith)) at ends)

-- ---- of the player's input

-- refusals 1 to 7 of the input, else the last event's number; 0 where there is no event
unfoldable pub number_for : List ℕ → ℕ → ℕ → ℕ
number_for input closes sheet =
    accepted (input_refusal input) (last_number (opened input) closes (events_in input) sheet) (input_refusal input)

-- the last event's quantity; 0 where anything is refused or there is no event
unfoldable pub quantity_for : List ℕ → ℕ → ℕ → ℕ
quantity_for input closes sheet = accepted (input_refusal input) (last_quantity (opened input) closes (events_in input) sheet) 0

-- the last event's lines, as the player prints them; none where the input is refused
unfoldable pub lines_for : List ℕ → List ℕ
lines_for input = accepted (input_refusal input) (last_text (opened input) (events_in input)) []
