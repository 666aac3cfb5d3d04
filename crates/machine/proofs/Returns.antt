-- The two ways in which a call in place returns: it is refused and nothing is changed, or it is done as the plain book does it.
use Rattle.std.proofs.Common.{Err, Ok}
use Prim.Native.Nat.{ℕ, zero, suc, ◌≤◌}
use mathlib.Core.Path.{◌≡◌, refl, ap, sym, ◌∙◌}
use mathlib.Core.Logic.{◌≢◌}
use mathlib.Core.List.{List, []}
use native.Mathlib.Omega.{arith}
use lib.ListN.{length, take}
use Rattle.laws.specs.Limits.{SHEET_CELLS}
use Rattle.laws.specs.Refusals.{accepted_zero, accepted_not}
use Rattle.plain.specs.declared.Piece.{Piece}
use Rattle.plain.specs.Calls.{Call, hands_out, amount, done}
use Rattle.plain.specs.Refusals.{refusal}
use Rattle.plain.specs.Histories.{event_of, next, pieces, quantity}
use Rattle.pieces.specs.Sheet.{pieces_of, sheet_with}
use Rattle.kept.specs.View.{view, Fits}
use Rattle.laws.specs.Answers.{answer, answer_refused, number, number_some}
use Rattle.kept.proofs.Returns.{valid_done}
use Rattle.laws.specs.declared.Refusal.{Refusal}
use Rattle.machine.specs.declared.Core.{Core}
use Rattle.machine.specs.declared.Numbers.{Numbers}
use Rattle.machine.specs.View.{kept_of, book_of, Lent, Held, Called, CalledBare, CalledOn}

-- a refused call
refused_called : (b : Core) (a : Numbers) (c : Call) (r : Refusal) → Held b a → refusal (book_of b a) c ≡ number r → Called b a c b a (Err r) []
unfolding next pieces
refused_called b a c r h e =
    let w = book_of b a in
    let n : refusal w c ≢ 0 = λ z. number_some r (sym e ∙ z) in
    record {
      returned =
          record {
            outcome = answer_refused (refusal w c) (quantity w c) r (sym e);
            pieces = sym (accepted_not (refusal w c) (hands_out w (event_of c)) [] n);
            book = sym (accepted_not (refusal w c) (done w (event_of c)) w n);
            valid = h.valid;
            kept = λ z. refl;
          };
      lent = h.lent;
      kept = λ z. (refl, refl);
    }

-- an accepted call
taken_called : (b : Core) (a : Numbers) (c : Call) (after : Core) (z : Numbers) (q : ℕ) (xs : List Piece) → Held b a → refusal (book_of b a) c ≡ 0
    → q ≡ amount (book_of b a) (event_of c) → xs ≡ hands_out (book_of b a) (event_of c) → view (kept_of after z) ≡ done (book_of b a) (event_of c) → Fits (kept_of after z) → Lent after z
    → Called b a c after z (Ok q) xs
unfolding next pieces quantity
taken_called b a c after z q xs h e much given same fits lent =
    let w = book_of b a in
    record {
      returned =
          record {
            outcome = ap Ok (much ∙ sym (accepted_zero (refusal w c) (amount w (event_of c)) 0 e)) ∙ ap (λ (k : ℕ). answer k (quantity w c)) (sym e);
            pieces = given ∙ sym (accepted_zero (refusal w c) (hands_out w (event_of c)) [] e);
            book = same ∙ sym (accepted_zero (refusal w c) (done w (event_of c)) w e);
            valid = valid_done (kept_of b a) c (kept_of after z) h.valid e same fits;
            kept = λ n. absurd (n e);
          };
      lent = lent;
      kept = λ n. absurd (n e);
    }

-- a refused call that has no sheet, and one on a sheet
pub refused : (b : Core) (a : Numbers) (c : Call) (r : Refusal) → Held b a → refusal (book_of b a) c ≡ number r → CalledBare b a c b a (Err r) 0
refused b a c r h e = record { called = refused_called b a c r h e; none = refl }

pub refused_on : (b : Core) (a : Numbers) (c : Call) (sheet : List ℕ) (r : Refusal) → Held b a → refusal (book_of b a) c ≡ number r → length sheet ≡ SHEET_CELLS → CalledOn b a c sheet b a sheet (Err r) 0
refused_on b a c sheet r h e long =
    let d = refused_called b a c r h e in
    record { called = d; filled = ap (λ (xs : List Piece). sheet_with xs sheet) d.returned.pieces; places = long; few = omega arith }

-- an accepted call that has no sheet
pub taken : (b : Core) (a : Numbers) (c : Call) (after : Core) (z : Numbers) (q : ℕ) → Held b a → refusal (book_of b a) c ≡ 0
    → q ≡ amount (book_of b a) (event_of c) → [] ≡ hands_out (book_of b a) (event_of c) → view (kept_of after z) ≡ done (book_of b a) (event_of c) → Fits (kept_of after z) → Lent after z
    → CalledBare b a c after z (Ok q) 0
taken b a c after z q h e much given same fits lent = record { called = taken_called b a c after z q [] h e much given same fits lent; none = refl }

-- and one on a sheet, which its pieces fill
pub taken_on : (b : Core) (a : Numbers) (c : Call) (sheet : List ℕ) (after : Core) (z : Numbers) (left : List ℕ) (q made : ℕ) → Held b a → refusal (book_of b a) c ≡ 0
    → q ≡ amount (book_of b a) (event_of c) → take made (pieces_of left) ≡ hands_out (book_of b a) (event_of c) → view (kept_of after z) ≡ done (book_of b a) (event_of c) → Fits (kept_of after z) → Lent after z
    → left ≡ sheet_with (take made (pieces_of left)) sheet → length left ≡ SHEET_CELLS → made ≤ 1024 → CalledOn b a c sheet after z left (Ok q) made
taken_on b a c sheet after z left q made h e much given same fits lent filled long few =
    let d = taken_called b a c after z q (take made (pieces_of left)) h e much given same fits lent in
    record { called = d; filled = filled ∙ ap (λ (xs : List Piece). sheet_with xs sheet) d.returned.pieces; places = long; few = few }
