-- What a call in place leaves of a book's parts is what the call returns of the book as one value, on a sheet of any length.
use Rattle.std.proofs.Common.{Err}
use Prim.Native.Nat.{ℕ, zero, suc, ◌<◌}
use native.Mathlib.Omega.{arith}
use mathlib.Core.Path.{◌≡◌, refl, ap, sym, ◌∙◌, subst}
use mathlib.Core.List.{List, []}
use mathlib.Core.Bool.{true, false, true≢false}
use lib.Dec.{ltb}
use borrow.Author.Tests.{lt-ltb}
use Rattle.laws.specs.Refusals.{accepted}
use Rattle.events.specs.declared.Event.{Event}
use Rattle.events.specs.declared.Event.TheVariants as event
use Rattle.plain.specs.declared.Piece.{Piece}
use Rattle.laws.specs.Answers.{Outcome}
use Rattle.laws.specs.declared.Refusal.TheVariants.{SmallSheet}
use Rattle.plain.specs.Book as plain
use Rattle.plain.specs.Calls.{Call, call, is_discharge, hands_out}
use Rattle.plain.specs.Refusals.{reasons, refusal}
use Rattle.plain.specs.Histories as histories
use Rattle.tables.specs.Tables.{pieces}
use Rattle.tables.specs.Lent.{piece_table}
use Rattle.pieces.proofs.Cells.{length_pieces}
use Rattle.machine.specs.View.{kept_of, Called, CalledOn}
use Rattle.machine.proofs.Returns.{refused}
use Rattle.calls.proofs.Stepping as calls
use Rattle.book.specs.declared.Book.{Book}
use Rattle.book.specs.declared.Discharged.{Discharged}
use Rattle.book.specs.View.{numbers_in, view, Valid, Returned}
use Rattle.book.specs.Stepping.{WithoutPieces, Stepped}

-- a book is its core and its numbers
same_book : (b after : Book) → (after.core ≡ b.core) × (numbers_in after ≡ numbers_in b) → after ≡ b
same_book b after e i = record { core = e.0 i; lent = e.1 i }

-- what a call returns of the book is what it leaves of the parts, and the other way round
module _ (b after : Book) (o : Outcome) (xs : List Piece) where
  pub returned : (c : Call) → Called b.core (numbers_in b) c after.core (numbers_in after) o xs → Returned b c after o xs
  unfolding view
  returned c d =
      let r = d.returned in
      record {
        outcome = r.outcome;
        pieces = r.pieces;
        book = r.book;
        valid = record { held = record { valid = r.valid; lent = d.lent } };
        kept = λ n. same_book b after (d.kept n);
      }

  pub called : (c : Call) → Returned b c after o xs → Called b.core (numbers_in b) c after.core (numbers_in after) o xs
  unfolding view
  called c r =
      record {
        returned =
            record {
              outcome = r.outcome;
              pieces = r.pieces;
              book = r.book;
              valid = r.valid.held.valid;
              kept = λ n. ap (λ (x : Book). kept_of x.core (numbers_in x)) (r.kept n);
            };
        lent = r.valid.held.lent;
        kept = λ n. (ap (λ (x : Book). x.core) (r.kept n), ap numbers_in (r.kept n));
      }

  -- a call that is refused alike with sheets of two lengths returns alike
  pub other_sheet : (e : Event) (m n : ℕ) → refusal (view b) (call e m) ≡ refusal (view b) (call e n) → Returned b (call e m) after o xs → Returned b (call e n) after o xs
  unfolding view
  other_sheet e m n same r =
      let d = called (call e m) r in
      returned (call e n)
      (record {
        returned = calls.other_sheet (kept_of b.core (numbers_in b)) e m n same (kept_of after.core (numbers_in after)) o xs d.returned;
        lent = d.lent;
        kept = λ k. d.kept (λ z. k (sym same ∙ z));
      })

-- a sheet of 1,024 places is as good as a longer one
pub long_sheet : (b : plain.Book) (e : Event) (n : ℕ) → ltb n 1024 ≡ false → refusal b (call e 1024) ≡ refusal b (call e n)
unfolding refusal reasons
long_sheet b (event.Trade t) n h = refl
long_sheet b (event.Price p) n h = refl
long_sheet b (event.Delivery d) n h = rw h
long_sheet b (event.Attempt a) n h = refl
long_sheet b (event.Offer o) n h = refl
long_sheet b (event.Award a) n h = refl
long_sheet b (event.Confirm c) n h = rw h
long_sheet b (event.Cash c) n h = rw h
long_sheet b event.Close n h = refl
long_sheet b (event.PairOff x) n h = rw h

-- 8. "The sheet has under 1,024 places", before any other reason
short_sheet : (b : plain.Book) (e : Event) (n : ℕ) → is_discharge e ≡ true → ltb n 1024 ≡ true → refusal b (call e n) ≡ 8
unfolding refusal reasons
short_sheet b (event.Trade t) n d h = absurd (true≢false (sym d))
short_sheet b (event.Price p) n d h = absurd (true≢false (sym d))
short_sheet b (event.Delivery x) n d h = rw h
short_sheet b (event.Attempt a) n d h = absurd (true≢false (sym d))
short_sheet b (event.Offer o) n d h = absurd (true≢false (sym d))
short_sheet b (event.Award a) n d h = absurd (true≢false (sym d))
short_sheet b (event.Confirm c) n d h = rw h
short_sheet b (event.Cash c) n d h = rw h
short_sheet b event.Close n d h = absurd (true≢false (sym d))
short_sheet b (event.PairOff x) n d h = rw h

-- an event that is no discharge hands out no piece
none_handed : (b : plain.Book) (e : Event) → is_discharge e ≡ false → hands_out b e ≡ []
unfolding hands_out
none_handed b (event.Trade t) h = refl
none_handed b (event.Price p) h = refl
none_handed b (event.Delivery d) h = absurd (true≢false h)
none_handed b (event.Attempt a) h = refl
none_handed b (event.Offer o) h = refl
none_handed b (event.Award a) h = refl
none_handed b (event.Confirm c) h = absurd (true≢false h)
none_handed b (event.Cash c) h = absurd (true≢false h)
none_handed b event.Close h = refl
none_handed b (event.PairOff x) h = absurd (true≢false h)

accepted_same : {A : Type 0} (n : ℕ) (x : A) → accepted n x x ≡ x
accepted_same zero x = refl
accepted_same (suc n) x = refl

no_pieces : (b : plain.Book) (e : Event) (n : ℕ) → is_discharge e ≡ false → histories.pieces b (call e n) ≡ []
unfolding histories.pieces
no_pieces b e n bare = rw (none_handed b e bare) (accepted_same (refusal b (call e n)) [])

module _ (b : Book) (e : Event) (n : ℕ) where
  -- an event whose sheet, if it has one, is long enough, by the call in place on one of 1,024 places
  pub stepped : refusal (view b) (call e 1024) ≡ refusal (view b) (call e n) → (after : Book) (o : Outcome) (sheet left : List ℕ) (made : ℕ)
      → CalledOn b.core (numbers_in b) (call e 1024) sheet after.core (numbers_in after) left o made
      → Stepped b e n after (record { outcome = o; pieces = piece_table left made })
  unfolding pieces
  stepped same after o sheet left made d =
      record {
        returned = other_sheet b after o _ e 1024 n same (returned b after o _ (call e 1024) d.called);
        pieces_fit = record { places = length_pieces left; held = d.few };
      }

  -- a discharge on a sheet that is too small
  pub too_small : is_discharge e ≡ true → n < 1024 → (r : Discharged) → Valid b → WithoutPieces (Err SmallSheet) r → Stepped b e n b r
  unfolding view
  too_small d small r v w =
      record {
        returned =
            rw (w.outcome, w.pieces)
            (returned b b (Err SmallSheet) [] (call e n)
            (refused b.core (numbers_in b) (call e n) SmallSheet v.held (short_sheet (view b) e n d (lt-ltb n 1024 small))).called);
        pieces_fit = w.pieces_fit;
      }

  -- an event that is no discharge returns no piece
  pub without_sheet : is_discharge e ≡ false → (after : Book) (r : Discharged) → Stepped b e n after r → Returned b (call e n) after r.outcome []
  without_sheet bare after r s =
      subst (λ (xs : List Piece). Returned b (call e n) after r.outcome xs) (s.returned.pieces ∙ no_pieces (view b) e n bare) s.returned
