-- `files::event_at` meets its contract. The event by the places of its kind byte and its body; past the last event there is none. The fields of a
-- body that is lent as a part are those that are read where it stands.
use Prim.Native.Nat.{ℕ, ◌+◌, ◌-◌, ◌*◌}
use native.Mathlib.Omega.{arith}
use mathlib.Core.Path.{◌≡◌, ap, ap₂, ◌∙◌}
use lib.ListN.{get_or, take, drop}
use Rattle.events.specs.declared.Event.{Event}
use Rattle.events.specs.declared.Fields.{Fields}
use Rattle.events.specs.Layout.{BODY}
use Rattle.events.specs.Body.{event_from, fields_at}
use Rattle.events.specs.Passing.{fields_part}
use Rattle.files.specs.Layout.{HEADER}
use Rattle.files.specs.File.{events_of}
use Rattle.files.proofs.Places.{event_past, event_place}
use Rattle.files.proofs.event_at.Goals as goal
use Rattle.files.proofs.event_at.Lts as lts
use Rattle.files.proofs.event_at.Tie as tie
use Rattle.files.proofs.event_at.Reads as reads

abbrev Start : Type 0
Start = lts.Start tie.the-claims reads.Pre reads.Post

abbrev After-event_count-count : Type 0
After-event_count-count = lts.After-event_count tie.the-claims reads.Pre reads.Post

abbrev After-byte_at-kind : Type 0
After-byte_at-kind = lts.After-byte_at tie.the-claims reads.Pre reads.Post

pub returns-then-count-i : goal.returns-then-count-i
returns-then-count-i c = event_past c.args.file.now _ _ c.event_count-count.ensures c.if-count-i.true

-- once the kind byte is read, the event is of that kind, with the fields that stand at the place of its body
abbrev counted : After-byte_at-kind → After-event_count-count
counted k = k.before.before

abbrev started : After-byte_at-kind → Start
started k = k.before.before.before.before

of_fields : (k : After-byte_at-kind) (f : Fields) → f ≡ fields_at (started k).args.file.now (HEADER + (counted k).event_count-count.result + BODY * (started k).args.i)
    → event_from k.byte_at-kind.result f ≡ get_or (events_of (started k).args.file.now) (started k).args.i Event.Close
of_fields k f e =
    ap₂ event_from k.byte_at-kind.ensures e
    ∙ event_place (started k).args.file.now _ (started k).args.i (counted k).event_count-count.ensures k.if-count-i.false

pub returns-then-file-at : goal.returns-then-file-at
returns-then-file-at c = c.event_from.ensures ∙ of_fields c.before.before.before.before _ c.fields_at.ensures

pub returns : goal.returns
returns c =
    let file = (started c.before.before.before.before.before).args.file.now in
    let at : ℕ = HEADER + (counted c.before.before.before.before.before).event_count-count.result + BODY * (started c.before.before.before.before.before).args.i in
    let long : at + BODY - at ≡ BODY = omega arith in
    c.event_from-2.ensures
    ∙ of_fields c.before.before.before.before.before _ (c.fields_at-2.ensures ∙ ap (λ (n : ℕ). fields_at (take n (drop at file)) 0) long ∙ fields_part file at)
