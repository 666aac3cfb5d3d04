-- Document 01's example as a file, and refusals of files like it, by computation.
use Rattle.std.specs.Prelude.{ℕ, ◌≡◌, refl, List, [], ◌∷◌, ◌++◌}
use Rattle.events.specs.declared.Event.{Event}
use Rattle.events.specs.Layout.{marks_of}
use Rattle.events.specs.Body.{kind_of, fields_of, body, fields_at, event_from, spare_in, masked}
use Rattle.files.specs.File.{refusal, file_of, events_of}

-- "member 1 sells to member 2 100 units of security 1 at 1,000; close; close; deliver 100 of position 1"
events : List Event
events =
    Event.Trade (record { seller = 1; buyer = 2; security = 1; quantity = 100; price = 1000; sellerkind = 0; buyerkind = 0 })
    ∷ Event.Close
    ∷ Event.Close
    ∷ Event.Delivery (record { position = 1; quantity = 100 })
    ∷ []

header : List ℕ
header = 4 ∷ 0 ∷ 16 ∷ 0 ∷ []

trade : List ℕ
trade = 1 ∷ 0 ∷ 1 ∷ 2 ∷ 100 ∷ 0 ∷ 0 ∷ 0 ∷ 232 ∷ 3 ∷ 0 ∷ 0 ∷ 0 ∷ 0 ∷ 0 ∷ 0 ∷ []

blank : List ℕ
blank = 0 ∷ 0 ∷ 0 ∷ 0 ∷ 0 ∷ 0 ∷ 0 ∷ 0 ∷ 0 ∷ 0 ∷ 0 ∷ 0 ∷ 0 ∷ 0 ∷ 0 ∷ 0 ∷ []

delivery : List ℕ
delivery = 1 ∷ 0 ∷ 0 ∷ 0 ∷ 100 ∷ 0 ∷ 0 ∷ 0 ∷ 0 ∷ 0 ∷ 0 ∷ 0 ∷ 0 ∷ 0 ∷ 0 ∷ 0 ∷ []

file : List ℕ
file = header ++ (1 ∷ 9 ∷ 9 ∷ 3 ∷ []) ++ trade ++ blank ++ blank ++ delivery

written : file_of events ≡ file
unfolding events file header trade blank delivery file_of kind_of fields_of body marks_of masked
written = refl

passes : refusal file ≡ 0
unfolding file header trade blank delivery refusal marks_of spare_in
passes = refl

read : events_of file ≡ events
unfolding events file header trade blank delivery events_of event_from fields_at
read = refl

-- a length that is not the count's, and a count over a width that is not 16
longer : refusal (file ++ (0 ∷ [])) ≡ 5
unfolding file header trade blank delivery refusal marks_of spare_in
longer = refl

wider : refusal (0 ∷ 0 ∷ 17 ∷ 0 ∷ []) ≡ 5
unfolding refusal
wider = refl

empty : refusal (0 ∷ 0 ∷ 16 ∷ 0 ∷ []) ≡ 0
unfolding refusal
empty = refl

-- of one event the kind comes first; of two, the first event does
no_kind : refusal (1 ∷ 0 ∷ 16 ∷ 0 ∷ 11 ∷ trade) ≡ 6
unfolding trade refusal marks_of spare_in
no_kind = refl

spare_first : refusal (2 ∷ 0 ∷ 16 ∷ 0 ∷ 3 ∷ 11 ∷ trade ++ blank) ≡ 7
unfolding trade blank refusal marks_of spare_in
spare_first = refl

-- a pair-off names its long by the whole price field: 65,537 is not position 1
pairing : List ℕ
pairing = 1 ∷ 0 ∷ 16 ∷ 0 ∷ 10 ∷ 3 ∷ 0 ∷ 0 ∷ 0 ∷ 40 ∷ 0 ∷ 0 ∷ 0 ∷ 1 ∷ 0 ∷ 1 ∷ 0 ∷ 0 ∷ 0 ∷ 0 ∷ 0 ∷ []

pairing_passes : refusal pairing ≡ 0
unfolding pairing refusal marks_of spare_in
pairing_passes = refl

pairing_read : events_of pairing ≡ Event.PairOff (record { short = 3; long = 65537; quantity = 40 }) ∷ []
unfolding pairing events_of event_from fields_at
pairing_read = refl
