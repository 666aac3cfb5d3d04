-- What stands at a place of a file: the kind and the body of an event.
use Prim.Native.Nat.{ℕ, zero, suc, ◌+◌, ◌*◌, ◌≤◌, ◌<◌, min}
use native.Mathlib.Numerals.{add-one}
use native.Mathlib.Omega.{arith}
use mathlib.Core.Path.{◌≡◌, refl, ap, ap₂, sym, ◌∙◌}
use mathlib.Core.List.{List, [], ◌∷◌}
use lib.ListN.{length, get_or, take, drop, set, get_or-eq_default}
use lib.Seq.{drop-drop, take_all}
use lib.Dec.{leb}
use borrow.Author.Tests.{leb-true, leb-false}
use Rattle.laws.specs.Limits.{EVENTS}
use Rattle.laws.specs.Asked.{Said, passed, failed, ask}
use Rattle.laws.specs.Parts.{get_or_part, padded, padded_more, padded_take}
use Rattle.events.specs.declared.Event.{Event}
use Rattle.events.specs.Layout.{BODY}
use Rattle.events.specs.Body.{fields_at, event_from, event_read}
use Rattle.events.specs.Passing.{fields_part}
use Rattle.files.specs.Layout.{HEADER}
use Rattle.files.specs.Passing.{length_events}
use Rattle.files.specs.File.{count, kinds_in, bodies_in, paired, events_of}

-- body i of those that stand one after the other from a place on
pub body_place : (file : List ℕ) (at i : ℕ) → take BODY (drop (BODY * i) (drop at file)) ≡ take BODY (drop (at + BODY * i) file)
body_place file at i = ap (take BODY) (drop-drop (BODY * i) at file)

-- a kind byte that is missing makes a close, like an event that is missing
event_paired : (kinds bodies : List ℕ) (i : ℕ) → get_or (paired kinds bodies) i Event.Close ≡ event_read (get_or kinds i 0) (take BODY (drop (BODY * i) bodies))
event_paired [] bodies i = unfold event_from in refl
event_paired (kind ∷ kinds) bodies zero = refl
event_paired (kind ∷ kinds) bodies (suc i) =
    event_paired kinds (drop BODY bodies) i
    ∙ ap (λ (b : List ℕ). event_read (get_or kinds i 0) (take BODY b)) (drop-drop (BODY * i) BODY bodies ∙ ap (λ (n : ℕ). drop n bodies) (next i))
  where
    next : (i : ℕ) → BODY + BODY * i ≡ BODY * suc i
    next i = omega arith

-- past the last event there is none
pub event_past : (file : List ℕ) (n i : ℕ) → n ≡ count file → n ≤ i → Event.Close ≡ get_or (events_of file) i Event.Close
event_past file n i e h = sym (get_or-eq_default (events_of file) Event.Close (omega (arith, length_events file)))

-- an event by the places of its kind byte and its body
pub event_place : (file : List ℕ) (n i : ℕ) → n ≡ count file → i < n → event_from (get_or file (HEADER + i) 0) (fields_at file (HEADER + n + BODY * i)) ≡ get_or (events_of file) i Event.Close
unfolding events_of
event_place file n i e h =
    rw (← e)
    (ap₂ event_from (sym (get_or_part file HEADER n i 0 h)) (sym (fields_part file (HEADER + n + BODY * i)) ∙ ap (λ (b : List ℕ). fields_at b 0) (sym (body_place file (HEADER + n) i)))
    ∙ sym (event_paired (kinds_in file n) (bodies_in file n) i))

-- ---- the events read into an array

-- one event more is read
pub stored_event : (es events : List Event) (e : Event) (i : ℕ) → events ≡ padded Event.Close EVENTS (take i es) → e ≡ get_or es i Event.Close → i < EVENTS
    → set events i e ≡ padded Event.Close EVENTS (take (i + 1) es)
stored_event es events e i p q h =
    rw (p, q, add-one i) (padded_more Event.Close EVENTS i es h)

-- all that the file says, or all that the array has places for, are read
pub all_events : (file : List ℕ) (i : ℕ) → min (count file) EVENTS ≤ i → padded Event.Close EVENTS (take i (events_of file)) ≡ padded Event.Close EVENTS (events_of file)
all_events file i h = go (ask (leb EVENTS i))
  where
    go : Said (leb EVENTS i) → padded Event.Close EVENTS (take i (events_of file)) ≡ padded Event.Close EVENTS (events_of file)
    go (passed p) = padded_take Event.Close EVENTS i (events_of file) (leb-true EVENTS i p)
    go (failed p) = ap (padded Event.Close EVENTS) (take_all i (events_of file) (short (leb-false EVENTS i p)))
      where
        short : i < EVENTS → length (events_of file) ≤ i
        short k = omega (arith, length_events file)
