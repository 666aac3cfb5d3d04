-- An input is taken apart where its register ends, and a book is opened on it.
use Prim.Native.Nat.{ℕ, ◌-◌, ◌≤◌, min}
use native.Mathlib.Omega.{arith}
use mathlib.Core.Path.{◌≡◌, ap, ap₂, ◌∙◌, subst}
use mathlib.Core.List.{List}
use lib.ListN.{length, take, drop, length-drop}
use lib.Seq.{take_all}
use Rattle.std.proofs.Common.{Result, Ok, Err}
use Rattle.laws.specs.Answers.{number}
use Rattle.laws.specs.declared.Refusal.{Refusal}
use Rattle.laws.specs.declared.TurnedDown.{TurnedDown}
use Rattle.machine.specs.declared.Core.{Core}
use Rattle.replay.specs.Replay.{replay_refusal, ReadyFor}
use Rattle.transcript.specs.Parts.{take_min, drop_min}
use Rattle.transcript.specs.Transcript.{register_length, register_in, file_in, input_refusal}
use Rattle.transcript.specs.Playing.{StartedOn}

module _ (input : List ℕ) (end : ℕ) (is : end ≡ min (register_length input) (length input)) where
  pub end_within : end ≤ length input
  end_within = omega (arith, is)

  front : take end input ≡ register_in input
  front = ap (λ (k : ℕ). take k input) is ∙ take_min (register_length input) input

  -- the part from there to the end, as the code lends it
  pub back : take (length input - end) (drop end input) ≡ file_in input
  back =
      take_all (length input - end) (drop end input) (omega (arith, length-drop end input))
      ∙ ap (λ (k : ℕ). drop k input) is
      ∙ drop_min (register_length input) input

  checked : (r : Result Core (TurnedDown Core)) → ReadyFor (take end input) (take (length input - end) (drop end input)) r → ReadyFor (register_in input) (file_in input) r
  checked r k =
      subst (λ (l : List ℕ). ReadyFor (register_in input) l r) back (subst (λ (l : List ℕ). ReadyFor l (take (length input - end) (drop end input)) r) front k)

  -- the refusal of the two parts is the input's
  decided : replay_refusal (take end input) (take (length input - end) (drop end input)) ≡ input_refusal input
  unfolding input_refusal
  decided = ap₂ replay_refusal front back

  pub refused : (r : Refusal) → number r ≡ replay_refusal (take end input) (take (length input - end) (drop end input)) → number r ≡ input_refusal input
  refused r e = e ∙ decided

  pub turned_down : (t : TurnedDown Core) → ReadyFor (take end input) (take (length input - end) (drop end input)) (Err t)
      → StartedOn input (Err (record { refusal = t.refusal; value = record { file = end; core = t.value } }))
  turned_down t k =
      record {
        number = refused t.refusal k.number;
        ready = tt;
        unready = record { file = is; unread = (checked (Err t) k).unread };
      }

  pub started : (b : Core) → ReadyFor (take end input) (take (length input - end) (drop end input)) (Ok b) → StartedOn input (Ok (record { file = end; core = b }))
  started b k =
      record {
        number = k.number ∙ decided;
        ready = record { file = is; opened = (checked (Ok b) k).opened };
        unready = tt;
      }
