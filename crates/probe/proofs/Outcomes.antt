-- What the last event answers, and what is answered of it as one number.
use Rattle.std.proofs.Common.{Ok}
use Rattle.laws.specs.declared.Refusal.{Refusal}
use Prim.Native.Nat.{ℕ, ◌-◌, ◌≤◌, ◌<◌}
use native.Mathlib.Omega.{arith}
use mathlib.Core.Path.{◌≡◌, ap, ap₂, sym, ◌∙◌, subst}
use mathlib.Core.Logic.{◌≢◌}
use mathlib.Core.List.{List}
use lib.Dec.{ltb}
use lib.ListN.{length, take, drop}
use borrow.Author.Tests.{lt-ltb, le-ltb}
use Rattle.laws.specs.Asked.{Said, passed, failed, ask}
use Rattle.laws.specs.Refusals.{accepted_zero, accepted_not}
use Rattle.events.specs.declared.Event.{Event}
use Rattle.files.specs.File.{events_of}
use Rattle.plain.specs.declared.Piece.{Piece}
use Rattle.laws.specs.Answers.{Outcome, answer, number, number_in, number_some, quantity_of}
use Rattle.plain.specs.Book as plain
use Rattle.plain.specs.Calls.{call}
use Rattle.plain.specs.Refusals.{refusal}
use Rattle.plain.specs.Histories.{quantity}
use Rattle.machine.specs.Answers.{answered_number, answered_quantity}
use Rattle.book.specs.declared.Book.{Book}
use Rattle.book.specs.View.{view, Returned}
use Rattle.book.proofs.Returns.{other_sheet, long_sheet}
use Rattle.transcript.specs.declared.Started.{Started}
use Rattle.transcript.specs.Transcript.{input_refusal, opened, events_in}
use Rattle.transcript.specs.Playing.{StartedOn}
use Rattle.transcript.proofs.Ready.{back}
use Rattle.answers.specs.Packed.{packed}
use Rattle.probe.specs.Last.{after_closes, last_event, last_call, before_last, last_number, last_quantity, LastAnswered, number_for, quantity_for}

-- what an event answered on a sheet of 1,024 places, it answers on any longer one
pub on_longer : (b after : Book) (e : Event) (long places : ℕ) (o : Outcome) (xs : List Piece) → long ≡ 1024 → 1024 ≤ places → Returned b (call e long) after o xs
    → o ≡ answer (refusal (view b) (call e places)) (quantity (view b) (call e places))
on_longer b after e long places o xs is h r =
    (other_sheet b after o xs e 1024 places (long_sheet (view b) e places (le-ltb places 1024 h)) (subst (λ (n : ℕ). Returned b (call e n) after o xs) is r)).outcome

module _ (b : plain.Book) (closes : ℕ) (events : List Event) (sheet : ℕ) where
  -- where there is no event, 0
  pub last_none : length events ≡ 0 → LastAnswered b closes events sheet (Ok 0)
  last_none e = rw (le-ltb 0 (length events) (omega (arith, e)))

  pub last_some : 0 < length events → (o : Outcome) (p : plain.Book) (e : Event) → p ≡ before_last (after_closes b closes) events
      → e ≡ last_event events → o ≡ answer (refusal p (call e sheet)) (quantity p (call e sheet))
      → LastAnswered b closes events sheet o
  last_some some o p e book is answers =
      rw (lt-ltb 0 (length events) some)
      (answers ∙ ap₂ (λ (q : plain.Book) (x : Event). answer (refusal q (call x sheet)) (quantity q (call x sheet))) book is)

-- an outcome has the quantity that it was answered with, since that of a refused call is 0
last_quantity_lem : (b : plain.Book) (closes : ℕ) (events : List Event) (sheet : ℕ) (o : Outcome) → LastAnswered b closes events sheet o → quantity_of o ≡ last_quantity b closes events sheet
last_quantity_lem b closes events sheet o e = go (ask (ltb 0 (length events)))
  where
    go : Said (ltb 0 (length events)) → quantity_of o ≡ last_quantity b closes events sheet
    go (passed p) =
        rw p (answered_quantity (before_last (after_closes b closes) events) (last_call events sheet) o (rw p at e))
    go (failed p) = rw p (ap quantity_of (rw p at e))

last_number_lem : (b : plain.Book) (closes : ℕ) (events : List Event) (sheet : ℕ) (o : Outcome) → LastAnswered b closes events sheet o → number_in o ≡ last_number b closes events sheet
last_number_lem b closes events sheet o e = go (ask (ltb 0 (length events)))
  where
    go : Said (ltb 0 (length events)) → number_in o ≡ last_number b closes events sheet
    go (passed p) = rw p (answered_number (before_last (after_closes b closes) events) (last_call events sheet) o (rw p at e))
    go (failed p) = rw p (ap number_in (rw p at e))

-- what the last event of an input answers, as one number
pub refused_input : (input : List ℕ) (closes sheet : ℕ) (r : Refusal) → number r ≡ input_refusal input → packed (number r) 0 ≡ packed (number_for input closes sheet) (quantity_for input closes sheet)
unfolding number_for quantity_for
refused_input input closes sheet r e =
    let n : input_refusal input ≢ 0 = λ z. number_some r (e ∙ z) in
    ap₂ packed (e ∙ sym (accepted_not (input_refusal input) _ _ n)) (sym (accepted_not (input_refusal input) _ _ n))

pub last_packed : (input : List ℕ) (closes sheet : ℕ) (s : Started) → StartedOn input (Ok s) → (o : Outcome) → LastAnswered (opened input) closes (events_of (take (length input - s.file) (drop s.file input))) sheet o
    → packed (number_in o) (quantity_of o) ≡ packed (number_for input closes sheet) (quantity_for input closes sheet)
unfolding number_for quantity_for
last_packed input closes sheet s on o k =
    let zero : input_refusal input ≡ 0 = sym on.number in
    let same : LastAnswered (opened input) closes (events_in input) sheet o =
    subst (λ (l : List ℕ). LastAnswered (opened input) closes (events_of l) sheet o) (back input s.file on.ready.file) k in
    ap₂ packed
    (last_number_lem (opened input) closes (events_in input) sheet o same ∙ sym (accepted_zero (input_refusal input) _ _ zero))
    (last_quantity_lem (opened input) closes (events_in input) sheet o same ∙ sym (accepted_zero (input_refusal input) _ _ zero))
