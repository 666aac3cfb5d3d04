-- The lines of the last event, its call made on a lent sheet; none where there is no event or the input is refused.
use Prim.Native.Nat.{ℕ, ◌+◌, ◌-◌, ◌*◌, ◌≤◌, ◌<◌, min}
use native.Mathlib.Omega.{arith}
use mathlib.Core.Path.{◌≡◌, ap, sym, ◌∙◌}
use mathlib.Core.List.{List, []}
use lib.ListN.{length, take, drop}
use borrow.Author.Tests.{lt-ltb, le-ltb}
use Rattle.laws.specs.Refusals.{accepted_zero, accepted_not}
use Rattle.events.specs.declared.Event.{Event}
use Rattle.files.specs.File.{events_of}
use Rattle.plain.specs.declared.Piece.{Piece}
use Rattle.std.proofs.Common.{Ok}
use Rattle.laws.specs.Answers.{Outcome, number, number_in, number_some, quantity_of}
use Rattle.laws.specs.declared.Refusal.{Refusal}
use Rattle.plain.specs.Book as plain
use Rattle.plain.specs.Calls.{call}
use Rattle.plain.specs.Refusals.{refusal}
use Rattle.plain.specs.Histories.{quantity}
use Rattle.pieces.specs.Sheet.{pieces_of}
use Rattle.machine.specs.Answers.{answered_number, answered_quantity}
use Rattle.book.specs.declared.Book.{Book}
use Rattle.book.specs.View.{view}
use Rattle.sheet.specs.Lent.{ReturnedOn}
use Rattle.report.specs.Lines.{LINE, event_lines}
use Rattle.report.specs.Pages.{Wrote, wrote_put, put_wrote, wrote_text, empty_wrote, put_text}
use Rattle.transcript.specs.declared.Started.{Started}
use Rattle.transcript.specs.Transcript.{input_refusal, opened, event_text}
use Rattle.transcript.specs.Playing.{StartedOn, BLOCK}
use Rattle.transcript.proofs.Ready.{back}
use Rattle.probe.specs.Last.{last_event, before_last, last_text, lines_for}

-- the last of some events
module _ (b : plain.Book) (events : List Event) (entry : List ℕ) where
  -- no event has no text
  pub none_shown : length events ≡ 0 → Wrote BLOCK (last_text b events) entry entry 0
  unfolding last_text
  none_shown h = rw (le-ltb 0 (length events) (omega (arith, h))) (empty_wrote BLOCK entry)

  -- number and quantity are written as the call answered them, and the pieces as they stand in the sheet when it returns, turned into numbers
  pub last_shown : (before after : Book) (e : Event) (number : ℕ) (ys zs : List Piece) (xs : List ℕ) (o : Outcome) (n : ℕ) (exit : List ℕ) (used : ℕ)
      → 0 < length events → BLOCK ≤ length entry → length ys ≡ 1024
      → view before ≡ before_last b events → e ≡ last_event events → number ≡ length events → ReturnedOn before e ys zs after o n
      → pieces_of xs ≡ zs
      → Wrote (LINE * (1 + min n 1024)) (event_lines number (number_in o) (quantity_of o) (take n (pieces_of xs))) entry exit used
      → Wrote BLOCK (last_text b events) entry exit used
  unfolding last_text event_text event_lines
  last_shown before after e number ys zs xs o n exit used some room long book is numbered on turned w =
      let r = on.returned in
      let put = wrote_put _ _ entry exit used (omega (arith, room)) w in
      let text : event_lines number (number_in o) (quantity_of o) (take n (pieces_of xs)) ≡ last_text b events =
      rw (lt-ltb 0 (length events) some, turned, ← book, ← is, ← numbered, answered_number (view before) (call e (length ys)) o r.outcome, answered_quantity (view before) (call e (length ys)) o r.outcome, r.pieces, long) in
      put_wrote BLOCK _ entry exit used room (omega (arith, put.bytes, ap length text, w.most)) (put_text _ _ entry exit used text put)

-- the last event of an input
module _ (input entry : List ℕ) where
  pub refused_lines : (r : Refusal) → number r ≡ input_refusal input → Wrote BLOCK (lines_for input) entry entry 0
  unfolding lines_for
  refused_lines r e =
      wrote_text BLOCK [] _ entry entry 0 (sym (accepted_not (input_refusal input) _ _ (λ z. number_some r (e ∙ z)))) (empty_wrote BLOCK entry)

  pub accepted_lines : (s : Started) → StartedOn input (Ok s) → (exit : List ℕ) (used : ℕ)
      → Wrote BLOCK (last_text (opened input) (events_of (take (length input - s.file) (drop s.file input)))) entry exit used
      → Wrote BLOCK (lines_for input) entry exit used
  unfolding lines_for
  accepted_lines s on exit used w =
      wrote_text BLOCK _ _ entry exit used
      (ap (λ (l : List ℕ). last_text (opened input) (events_of l)) (back input s.file on.ready.file) ∙ sym (accepted_zero (input_refusal input) _ _ (sym on.number)))
      w
