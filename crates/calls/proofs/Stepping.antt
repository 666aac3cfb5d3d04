-- One event by the call of its kind: what that call returns, with or without a sheet, is what the event does.
use Prim.Native.Nat.{ℕ}
use native.Mathlib.Omega.{arith}
use mathlib.Core.Path.{◌≡◌, refl, ap, sym, ◌∙◌, subst}
use mathlib.Core.List.{List, []}
use mathlib.Core.Bool.{true, false, true≢false}
use lib.ListN.{length}
use Rattle.laws.specs.Limits.{PLACES, SHEET_CELLS}
use Rattle.laws.specs.Refusals.{accepted}
use Rattle.events.specs.declared.Event.{Event}
use Rattle.events.specs.declared.Event.TheVariants as event
use Rattle.plain.specs.declared.Piece.{Piece}
use Rattle.laws.specs.Answers.{Outcome, answer}
use Rattle.plain.specs.Book as plain
use Rattle.plain.specs.Calls.{call, is_discharge, hands_out, amount, done}
use Rattle.plain.specs.Refusals.{reasons, refusal}
use Rattle.plain.specs.Histories.{next, pieces, quantity}
use Rattle.pieces.specs.Sheet.{sheet_with}
use Rattle.kept.specs.View.{Kept, view}
use Rattle.machine.specs.declared.Core.{Core}
use Rattle.calls.specs.Stepping.{Stepped}
use Rattle.machine.specs.declared.Numbers.{Numbers}
use Rattle.machine.specs.View.{kept_of, book_of, Returned, CalledBare, CalledOn}

-- an event that is no discharge is refused alike whatever the sheet's length
pub any_sheet : (b : plain.Book) (e : Event) (m n : ℕ) → is_discharge e ≡ false → refusal b (call e m) ≡ refusal b (call e n)
unfolding refusal reasons
any_sheet b (event.Trade t) m n h = refl
any_sheet b (event.Price p) m n h = refl
any_sheet b (event.Delivery d) m n h = absurd (true≢false h)
any_sheet b (event.Attempt a) m n h = refl
any_sheet b (event.Offer o) m n h = refl
any_sheet b (event.Award a) m n h = refl
any_sheet b (event.Confirm c) m n h = absurd (true≢false h)
any_sheet b (event.Cash c) m n h = absurd (true≢false h)
any_sheet b event.Close m n h = refl
any_sheet b (event.PairOff x) m n h = absurd (true≢false h)

-- a call that is refused alike with sheets of two lengths returns alike
module _ (b : Kept) (e : Event) (m n : ℕ) (same : refusal (view b) (call e m) ≡ refusal (view b) (call e n)) where
  alike : {A : Type 0} (given kept : A) → accepted (refusal (view b) (call e m)) given kept ≡ accepted (refusal (view b) (call e n)) given kept
  alike given kept = ap (λ (k : ℕ). accepted k given kept) same

  pub other_sheet : (after : Kept) (o : Outcome) (xs : List Piece) → Returned b (call e m) after o xs → Returned b (call e n) after o xs
  unfolding next pieces quantity
  other_sheet after o xs r =
      record {
        outcome = r.outcome ∙ ap (λ (k : ℕ). answer k (accepted (refusal (view b) (call e m)) (amount (view b) e) 0)) same ∙ ap (answer (refusal (view b) (call e n))) (alike (amount (view b) e) 0);
        pieces = r.pieces ∙ alike (hands_out (view b) e) [];
        book = r.book ∙ alike (done (view b) e) (view b);
        valid = r.valid;
        kept = λ k. r.kept (λ z. k (sym same ∙ z));
      }

-- an event that is no discharge, whose call has no sheet: a sheet that is lent beside it stays as it is
pub bare_on : (b : Core) (a : Numbers) (e : Event) (sheet : List ℕ) (after : Core) (z : Numbers) (o : Outcome) (n : ℕ)
    → is_discharge e ≡ false → length sheet ≡ SHEET_CELLS → CalledBare b a (call e 0) after z o n → CalledOn b a (call e PLACES) sheet after z sheet o n
bare_on b a e sheet after z o n none long d =
    let same : refusal (book_of b a) (call e 0) ≡ refusal (book_of b a) (call e PLACES) = any_sheet (book_of b a) e 0 PLACES none in
    let r = other_sheet (kept_of b a) e 0 PLACES same (kept_of after z) o [] d.called.returned in
    record {
      called = rw d.none (record { returned = r; lent = d.called.lent; kept = λ k. d.called.kept (λ z. k (sym same ∙ z)) });
      filled = ap (λ (xs : List Piece). sheet_with xs sheet) r.pieces;
      places = long;
      few = omega (arith, d.none);
    }

-- the event x, which is e: what its call returned, where it was made by the call of its kind
module _ (b : Core) (a : Numbers) (x : Event) (after : Core) (z : Numbers) (left : List ℕ) (o : Outcome) (n : ℕ) (e : Event) (is : x ≡ e) where
  pub stepped_on : (sheet : List ℕ) → Stepped b a e sheet after z left o n → Stepped b a x sheet after z left o n
  stepped_on sheet = subst (λ (y : Event). Stepped b a y sheet after z left o n) (sym is)

  pub stepped_bare : is_discharge e ≡ false → length left ≡ SHEET_CELLS → CalledBare b a (call e 0) after z o n → Stepped b a x left after z left o n
  stepped_bare none long d = stepped_on left (bare_on b a e left after z o n none long d)
