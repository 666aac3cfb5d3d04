-- Reading and writing an event are inverse: what is written of an event is read as that event.
use Rattle.std.specs.Prelude.{◌%◌, ◌/◌, ◌≡◌, refl, true, length}
use Rattle.std.proofs.Common.{ap, ◌∙◌}
use Rattle.laws.specs.Words.{word16, word32}
use Rattle.laws.specs.WordLaws.{word16_bytes, word32_bytes}
use Rattle.events.specs.declared.Event.{Event}
use Rattle.events.specs.declared.Fields.{Fields}
use Rattle.events.specs.Layout.{BODY, marks_of}
use Rattle.events.specs.Body.{kind_of, is_kind, fields_of, body, masked, body_of, fields_at, event_from, event_read, InWidth, Fits}
use Rattle.events.specs.Spare.{length_masked}

pub length_body : (e : Event) → length (body_of e) ≡ BODY
length_body e = length_masked (marks_of (kind_of e)) (body (fields_of e))

-- the fields of a body that was written
read_fields : (f : Fields) → InWidth f → fields_at (body f) 0 ≡ f
unfolding fields_at body
read_fields f h =
    let s : word16 (f.subject % 256) (f.subject / 256 % 256) ≡ f.subject = word16_bytes f.subject h.subject in
    let q : word32 (f.quantity % 256) (f.quantity / 256 % 256) (f.quantity / 65536 % 256) (f.quantity / 16777216 % 256) ≡ f.quantity = word32_bytes f.quantity h.quantity in
    let p : word32 (f.price % 256) (f.price / 256 % 256) (f.price / 65536 % 256) (f.price / 16777216 % 256) ≡ f.price = word32_bytes f.price h.price in
    λ i. record { subject = s i; first = f.first; second = f.second; quantity = q i; price = p i; firstkind = f.firstkind; secondkind = f.secondkind }

-- what an event's kind and fields say of it: the kind is one, the event is the one of this kind with these fields, and
-- its fields stand in bytes that its kind uses
pub record Told (e : Event) : Type 0 where
  pub kind : is_kind (kind_of e) ≡ true
  pub same : event_from (kind_of e) (fields_of e) ≡ e
  pub used : masked (marks_of (kind_of e)) (body (fields_of e)) ≡ body (fields_of e)

-- the cases of `Event` are gone through here alone; what else is said of a written event follows from these three
pub told : (e : Event) → Told e
unfolding event_from kind_of fields_of marks_of masked body
told (Event.Trade t) = record { kind = refl; same = refl; used = refl }
told (Event.Price p) = record { kind = refl; same = refl; used = refl }
told (Event.Delivery d) = record { kind = refl; same = refl; used = refl }
told (Event.Attempt a) = record { kind = refl; same = refl; used = refl }
told (Event.Offer o) = record { kind = refl; same = refl; used = refl }
told (Event.Award a) = record { kind = refl; same = refl; used = refl }
told (Event.Confirm c) = record { kind = refl; same = refl; used = refl }
told (Event.Cash c) = record { kind = refl; same = refl; used = refl }
told Event.Close = record { kind = refl; same = refl; used = refl }
told (Event.PairOff p) = record { kind = refl; same = refl; used = refl }

pub read_event : (e : Event) → Fits e → event_read (kind_of e) (body_of e) ≡ e
read_event e h =
    ap (event_read (kind_of e)) (told e).used
    ∙ ap (event_from (kind_of e)) (read_fields (fields_of e) h)
    ∙ (told e).same
