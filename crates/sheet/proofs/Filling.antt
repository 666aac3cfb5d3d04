-- What the core's answer makes of a lent sheet: there is room for its pieces, and the sheet with them is as the contract says.
use Prim.Native.Nat.{ℕ, zero, suc, ◌≤◌}
use native.Mathlib.Omega.{arith}
use mathlib.Core.Path.{◌≡◌, refl, sym, ◌∙◌, ap}
use mathlib.Core.Logic.{◌≢◌}
use mathlib.Core.Bool.{Bool, true, false}
use mathlib.Core.List.{List, [], ◌++◌}
use lib.Dec.{ltb}
use lib.Seq.{length-take-le, take-append_seam}
use lib.ListN.{length, take, drop}
use borrow.Author.Tests.{ltb-false}
use Rattle.laws.specs.Refusals.{accepted}
use Rattle.events.specs.declared.Event.{Event}
use Rattle.events.specs.declared.Event.TheVariants as event
use Rattle.plain.specs.declared.Piece.{Piece}
use Rattle.plain.specs.Book as plain
use Rattle.plain.specs.Calls.{call, hands_out}
use Rattle.plain.specs.Refusals.{reasons, refusal}
use Rattle.plain.specs.Histories.{pieces}
use Rattle.plain.proofs.Discharges.{refused}
use Rattle.tables.specs.Tables as table
use Rattle.book.specs.declared.Book.{Book}
use Rattle.book.specs.declared.Discharged.{Discharged}
use Rattle.book.specs.View.{view}
use Rattle.book.specs.Stepping.{Stepped}
use Rattle.sheet.specs.Lent.{ReturnedOn}

none_either_way : (n : ℕ) → accepted {A = List Piece} n [] [] ≡ []
none_either_way zero = refl
none_either_way (suc n) = refl

-- a call on a sheet of under 1,024 places hands out no piece
none_on_small : (b : plain.Book) (e : Event) (n : ℕ) → ltb n 1024 ≡ true → pieces b (call e n) ≡ []
unfolding pieces refusal reasons hands_out
none_on_small b (event.Trade t) n small = none_either_way (refusal b (call (event.Trade t) n))
none_on_small b (event.Price p) n small = none_either_way (refusal b (call (event.Price p) n))
none_on_small b (event.Delivery d) n small = rw small refl
none_on_small b (event.Attempt a) n small = none_either_way (refusal b (call (event.Attempt a) n))
none_on_small b (event.Offer o) n small = none_either_way (refusal b (call (event.Offer o) n))
none_on_small b (event.Award a) n small = none_either_way (refusal b (call (event.Award a) n))
none_on_small b (event.Confirm c) n small = rw small refl
none_on_small b (event.Cash c) n small = rw small refl
none_on_small b event.Close n small = none_either_way (refusal b (call event.Close n))
none_on_small b (event.PairOff x) n small = rw small refl

room : (b : plain.Book) (e : Event) (n : ℕ) (small : Bool) → ltb n 1024 ≡ small → length (pieces b (call e n)) ≤ 1024 → length (pieces b (call e n)) ≤ n
room b e n true h few = rw (none_on_small b e n h) (omega arith)
room b e n false h few = omega (arith, ltb-false n 1024 h, few)

module _ (b after : Book) (e : Event) (n : ℕ) (r : Discharged) (s : Stepped b e n after r) where
  counted : r.pieces.count ≡ length (pieces (view b) (call e n))
  unfolding table.pieces
  counted = sym (length-take-le r.pieces.count r.pieces.items (omega (arith, s.pieces_fit.held, s.pieces_fit.places))) ∙ ap length s.returned.pieces

  pub has_room : r.pieces.count ≤ n
  has_room = omega (arith, counted, room (view b) e n (ltb n 1024) refl (omega (arith, counted, s.pieces_fit.held)))

module _ (b after : Book) (e : Event) (ys zs : List Piece) (r : Discharged) (s : Stepped b e (length ys) after r) (filled : zs ≡ table.pieces r.pieces ++ drop r.pieces.count ys) where
  pub returned_on : ReturnedOn b e ys zs after r.outcome r.pieces.count
  returned_on =
      record {
        returned = rw read s.returned;
        count = counted b after e (length ys) r s;
        sheet = rw (sym s.returned.pieces) filled;
        kept = λ k. filled ∙ nothing k;
      }
    where
      given : List Piece
      given = table.pieces r.pieces

      read : take r.pieces.count zs ≡ given
      read =
          ap (take r.pieces.count) filled
          ∙ ap (λ (k : ℕ). take k (given ++ drop r.pieces.count ys)) (counted b after e (length ys) r s ∙ ap length (sym s.returned.pieces))
          ∙ take-append_seam given (drop r.pieces.count ys)

      nothing : refusal (view b) (call e (length ys)) ≢ 0 → given ++ drop r.pieces.count ys ≡ ys
      nothing k =
          let none : pieces (view b) (call e (length ys)) ≡ [] = (refused (view b) (call e (length ys)) k).pieces' in
          ap (λ (xs : List Piece). xs ++ drop r.pieces.count ys) (s.returned.pieces ∙ none)
          ∙ ap (λ (m : ℕ). drop m ys) (counted b after e (length ys) r s ∙ ap length none)
