-- The latest price of a security after a file: a refused register or file decides, else the book's answer does.
use Prim.Native.Nat.{ℕ}
use mathlib.Core.Path.{◌≡◌, ap, sym, ◌∙◌}
use mathlib.Core.Logic.{◌≢◌}
use mathlib.Core.List.{List, []}
use Rattle.laws.specs.Refusals.{accepted_zero, accepted_not}
use Rattle.files.specs.File.{events_of}
use Rattle.plain.specs.Book as plain
use Rattle.plain.specs.Calls.{Call}
use Rattle.plain.specs.Book.{opening_read, new}
use Rattle.plain.specs.Histories.{run, calls_of}
use Rattle.reading.specs.Reading.{price_answer}
use Rattle.book.specs.View.{view}
use Rattle.std.proofs.Common.{Ok}
use Rattle.laws.specs.Answers.{number, number_some}
use Rattle.laws.specs.declared.Refusal.{Refusal}
use Rattle.book.specs.declared.Book.{Book}
use Rattle.replay.specs.Replay.{replay_refusal, ReplayedFrom}
use Rattle.probe.specs.Latest.{answer_number, latest_for}

module _ (register file : List ℕ) (security : ℕ) where
  pub refused_latest : (r : Refusal) → number r ≡ replay_refusal register file → number r ≡ latest_for register file security
  unfolding latest_for
  refused_latest r e = e ∙ sym (accepted_not (replay_refusal register file) _ _ (λ z. number_some r (e ∙ z)))

  pub read_latest : (b : Book) → ReplayedFrom register file (Ok b) → answer_number (price_answer (view b) security) ≡ latest_for register file security
  unfolding latest_for
  read_latest b h =
      ap (λ (p : plain.Book). answer_number (price_answer p security)) h.replayed.book
      ∙ sym (accepted_zero (replay_refusal register file) _ _ (sym h.number))
