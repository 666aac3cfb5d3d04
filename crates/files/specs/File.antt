-- Event files. Document 01, 'Event files and the player', and refusals 5, 6 and 7 of 'Why a call is turned down'.
use Rattle.std.specs.Prelude.{ℕ, zero, suc, ◌+◌, ◌*◌, ◌≡◌, List, [], ◌∷◌, ◌++◌, map, not, eqb, ltb, length, take, drop}
use Rattle.laws.specs.Limits.{EVENTS}
use Rattle.laws.specs.Lists.{each}
use Rattle.laws.specs.Refusals.{Reason, ◌⇒◌, first}
use Rattle.laws.specs.Words.{word16_at, bytes16}
use Rattle.laws.specs.WordLaws.{nonzero}
use Rattle.events.specs.declared.Event.{Event}
use Rattle.events.specs.Layout.{BODY}
use Rattle.events.specs.Body.{kind_of, body_of, event_read, is_kind, spare_set}
use Rattle.files.specs.Layout.{COUNT_AT, WIDTH_AT, HEADER, EVENT_BYTES}

-- "A file is a count (u16, at most 2,048), body width (u16, 16), an array of kind bytes, then an array of bodies."
abbrev pub count : List ℕ → ℕ
count file = word16_at file COUNT_AT

abbrev pub size : ℕ → ℕ
size events = HEADER + EVENT_BYTES * events

abbrev pub kinds_in : List ℕ → ℕ → List ℕ
kinds_in file n = take n (drop HEADER file)

abbrev pub bodies_in : List ℕ → ℕ → List ℕ
bodies_in file n = drop (HEADER + n) file

-- the events that kind bytes and bodies make
abbrev pub paired : List ℕ → List ℕ → List Event
paired [] bodies = []
paired (kind ∷ kinds) bodies = event_read kind (take BODY bodies) ∷ paired kinds (drop BODY bodies)

unfoldable pub events_of : List ℕ → List Event
events_of file = paired (kinds_in file (count file)) (bodies_in file (count file))

-- "A kind is not 1 to 9", and not 10 (document 02, Slip 7); "A spare byte is not zero"
abbrev pub reasons : ℕ → List ℕ → List Reason
reasons kind bytes = (not (is_kind kind) ⇒ 6) ∷ (spare_set kind bytes ⇒ 7) ∷ []

-- "6 and 7 go event by event"
abbrev pub checks : List ℕ → List ℕ → List Reason
checks [] bodies = []
checks (kind ∷ kinds) bodies = reasons kind (take BODY bodies) ++ checks kinds (drop BODY bodies)

-- "The file's count, width or length is wrong", and then its events
unfoldable pub refusal : List ℕ → ℕ
refusal file =
    first
    ((ltb EVENTS (count file) ⇒ 5)
    ∷ (not (eqb (word16_at file WIDTH_AT) BODY) ⇒ 5)
    ∷ (not (eqb (length file) (size (count file))) ⇒ 5)
    ∷ checks (kinds_in file (count file)) (bodies_in file (count file)))

-- the header of a file of so many events
abbrev pub header_of : ℕ → List ℕ
header_of events = bytes16 events ++ bytes16 BODY

-- the bytes of a file of these events, the spare ones zero
unfoldable pub file_of : List Event → List ℕ
file_of events = header_of (length events) ++ map kind_of events ++ each body_of events

-- "Writing .. refuses with 5 more than 2,048 events or a page under 4 plus 17 bytes an event"
unfoldable pub writing_refusal : ℕ → ℕ → ℕ
writing_refusal events room = first ((ltb EVENTS events ⇒ 5) ∷ (ltb room (size events) ⇒ 5) ∷ [])

-- a file that is copied is read first, then written
unfoldable pub copying_refusal : List ℕ → ℕ → ℕ
copying_refusal file room =
    first ((nonzero (refusal file) ⇒ refusal file) ∷ (ltb room (size (count file)) ⇒ 5) ∷ [])

-- the page after the call: written where the refusal is 0, "and keeps the bytes after the last body"; else as it was
abbrev pub page_after : ℕ → List ℕ → List ℕ → List ℕ
page_after zero file page = file ++ drop (length file) page
page_after (suc n) file page = page

-- bytes that pass and are read as these events, in their order
pub record ReadsBack (events : List Event) (bytes : List ℕ) : Type 0 where
  pub passes : refusal bytes ≡ 0
  pub read : events_of bytes ≡ events
