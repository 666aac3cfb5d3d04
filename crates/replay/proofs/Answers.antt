-- What is answered: a refusal of the register or the file, or the book before and after the events.
use Rattle.std.proofs.Common.{ℕ, ◌≡◌, refl, sym, ◌∙◌, List, [], ◌∷◌, Ok, Err}
use Rattle.laws.specs.Answers.{number, number_some}
use Rattle.laws.specs.Refusals.{◌⇒◌, first}
use Rattle.laws.specs.WordLaws.{nonzero}
use Rattle.laws.specs.declared.Refusal.{Refusal}
use Rattle.laws.specs.declared.TurnedDown.{TurnedDown}
use Rattle.register.specs.Register.{register_read}
use Rattle.files.specs.File.{refusal, events_of}
use Rattle.plain.specs.Book.{opening_read, new}
use Rattle.plain.specs.Histories.{run, calls_of}
use Rattle.machine.specs.declared.Core.{Core}
use Rattle.calls.specs.Opening.{OpenedOn}
use Rattle.machine.specs.declared.Numbers.{Numbers}
use Rattle.machine.specs.View.{Blank}
use Rattle.book.specs.declared.Book.{Book}
use Rattle.book.specs.View.{view, Valid}
use Rattle.history.specs.Runs.{stand_of, RunsTo, in_place}
use Rattle.replay.specs.Replay.{replay_refusal, ReadyFor, ReplayedFrom, Replayed, deciding, decides}

-- the register is refused, whatever the file is
pub refused_register : (register file : List ℕ) (r : Refusal) → number r ≡ (register_read register).number → number r ≡ replay_refusal register file
unfolding replay_refusal
refused_register register file r e =
    e ∙ sym (decides (register_read register).number (first ((nonzero (refusal file) ⇒ refusal file) ∷ [])) (λ z. number_some r (e ∙ z)))

-- the same, with the core that opening handed out
pub turned_down_register : (register file : List ℕ) (t : TurnedDown Core) → OpenedOn register (Err t) → ReadyFor register file (Err t)
turned_down_register register file t opened =
    record {
      number = refused_register register file t.refusal opened.number;
      opened = tt;
      unread = record { book = opened.empty; opened = (Err t, opened, refl) };
    }

-- the register is not refused: the file decides
module _ (register file : List ℕ) (b : Core) (opened : OpenedOn register (Ok b)) where
  file_decides : replay_refusal register file ≡ refusal file
  unfolding replay_refusal
  file_decides = rw (← opened.number) (sym (deciding (refusal file)))

  pub refused_file : (r : Refusal) → number r ≡ refusal file → ReadyFor register file (Err (record { refusal = r; value = b }))
  refused_file r e =
      record {
        number = e ∙ sym file_decides;
        opened = tt;
        unread = record { book = opened.opened.book; opened = (Ok b, opened, refl) };
      }

  pub passed : 0 ≡ refusal file → ReadyFor register file (Ok b)
  passed e = record { number = e ∙ sym file_decides; opened = opened; unread = tt }

-- the events are played, or none is
pub none_replayed : (register file : List ℕ) (t : TurnedDown Core) → ReadyFor register file (Err t) → (b : Book) → view b ≡ new (opening_read register)
    → ReplayedFrom register file (Err (record { refusal = t.refusal; value = b }))
none_replayed register file t ready b same = record { number = ready.number; replayed = tt; unplayed = same }

pub all_replayed : (register file : List ℕ) (b : Core) → ReadyFor register file (Ok b) → (after : Book) → view after ≡ run (new (opening_read register)) (calls_of (events_of file)) → Valid after
    → ((a : Numbers) × (Blank a) × (RunsTo (record { core = b; numbers = a }) (calls_of (events_of file)) (stand_of after)))
    → ReplayedFrom register file (Ok after)
all_replayed register file b ready after same valid runs =
    record {
      number = ready.number;
      replayed =
          record {
            book = same;
            valid = valid;
            played = record { start = record { core = b; numbers = runs.0 }; begins = in_place ready.opened runs.1; runs = runs.2 };
          };
      unplayed = tt;
    }
