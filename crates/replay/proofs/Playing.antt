-- Events played in place, one after the other: none, and one more.
use Prim.Native.Nat.{ℕ, ◌+◌, ◌<◌}
use native.Mathlib.Numerals.{add-one}
use mathlib.Core.Path.{◌≡◌, refl, ap, sym, ◌∙◌, subst}
use mathlib.Core.List.{List, [], ◌∷◌, ◌++◌, map-append}
use lib.ListN.{length, get_or, take}
use lib.Seq.{take-suc}
use Rattle.events.specs.declared.Event.{Event}
use Rattle.laws.specs.Answers.{Outcome}
use Rattle.plain.specs.Calls.{Call, call}
use Rattle.plain.specs.Book as plain
use Rattle.plain.specs.Histories.{calls_of, next, pieces, run}
use Rattle.pieces.specs.Sheet.{sheet_with}
use Rattle.machine.specs.declared.Core.{Core}
use Rattle.machine.specs.declared.Numbers.{Numbers}
use Rattle.machine.specs.View.{Held}
use Rattle.calls.specs.Stepping.{Stepped}
use Rattle.history.specs.Runs.{RunsTo, on_numbers}
use Rattle.history.proofs.Playing.{runs_none, runs_one, runs_then, runs_book}
use Rattle.replay.specs.Replay.{PlayedUpTo, sheet_after}

sheet_after_one : (cs : List Call) (b : plain.Book) (c : Call) (sheet : List ℕ) → sheet_after b (cs ++ c ∷ []) sheet ≡ sheet_with (pieces (run b cs) c) (sheet_after b cs sheet)
unfolding sheet_after run
sheet_after_one [] b c sheet = refl
sheet_after_one (d ∷ cs) b c sheet = sheet_after_one cs (next b d) c (sheet_with (pieces b d) sheet)

-- no call leaves the sheet as it is
pub none_filled : (b : plain.Book) (sheet : List ℕ) → sheet ≡ sheet_after b [] sheet
unfolding sheet_after
none_filled b sheet = refl

pub none_played : (b : Core) (a : Numbers) → Held b a → PlayedUpTo b a [] b a
unfolding run
none_played b a h = record { held = h; runs = runs_none (record { core = b; numbers = a }); book = refl }

-- a list of calls that was made, as what is played
made : (b : Core) (a : Numbers) (events : List Event) (after : Core) (z : Numbers) → Held after z → RunsTo (record { core = b; numbers = a }) (calls_of events) (record { core = after; numbers = z }) → PlayedUpTo b a events after z
made b a events after z h r = record { held = h; runs = r; book = runs_book r }

calls_append : (xs ys : List Event) → calls_of (xs ++ ys) ≡ calls_of xs ++ calls_of ys
calls_append xs ys = map-append (λ e. call e 1024) xs ys

pub then_played : (b : Core) (a : Numbers) (xs ys : List Event) (c d : Core) (y z : Numbers) → PlayedUpTo b a xs c y → PlayedUpTo c y ys d z → PlayedUpTo b a (xs ++ ys) d z
then_played b a xs ys c d y z p q =
    made b a (xs ++ ys) d z q.held
    (subst (λ (cs : List Call). RunsTo (record { core = b; numbers = a }) cs (record { core = d; numbers = z })) (sym (calls_append xs ys)) (runs_then p.runs q.runs))

pub one_played : (b : Core) (a : Numbers) (e : Event) (sheet : List ℕ) (after : Core) (z : Numbers) (left : List ℕ) (o : Outcome) (n : ℕ) → Stepped b a e sheet after z left o n → PlayedUpTo b a (e ∷ []) after z
one_played b a e sheet after z left o n d =
    made b a (e ∷ []) after z (record { valid = d.called.returned.valid; lent = d.called.lent }) (runs_one (on_numbers d))

-- the sheet after one more call
pub more_filled : (b w : plain.Book) (xs : List Event) (e : Event) (entry sheet left : List ℕ) → w ≡ run b (calls_of xs) → sheet ≡ sheet_after b (calls_of xs) entry → left ≡ sheet_with (pieces w (call e 1024)) sheet
    → left ≡ sheet_after b (calls_of (xs ++ e ∷ [])) entry
more_filled b w xs e entry sheet left book before one =
    one
    ∙ ap (λ (v : plain.Book). sheet_with (pieces v (call e 1024)) sheet) book
    ∙ ap (λ (s : List ℕ). sheet_with (pieces (run b (calls_of xs)) (call e 1024)) s) before
    ∙ sym (ap (λ (cs : List Call). sheet_after b cs entry) (calls_append xs (e ∷ [])) ∙ sheet_after_one (calls_of xs) b (call e 1024) entry)

-- one more of a list of events
pub event_more : (events : List Event) (i : ℕ) (none e : Event) → i < length events → e ≡ get_or events i none → take (i + 1) events ≡ take i events ++ e ∷ []
event_more events i none e inside is =
    ap (λ (k : ℕ). take k events) (add-one i) ∙ take-suc events i none inside ∙ ap (λ (x : Event). take i events ++ x ∷ []) (sym is)

pub more_played : (b : Core) (a : Numbers) (events : List Event) (i : ℕ) (none e : Event) (c : Core) (y : Numbers) (sheet : List ℕ) (after : Core) (z : Numbers) (left : List ℕ) (o : Outcome) (n : ℕ)
    → i < length events → e ≡ get_or events i none → PlayedUpTo b a (take i events) c y → Stepped c y e sheet after z left o n → PlayedUpTo b a (take (i + 1) events) after z
more_played b a events i none e c y sheet after z left o n inside is p d =
    rw (event_more events i none e inside is) (then_played b a (take i events) (e ∷ []) c after y z p (one_played c y e sheet after z left o n d))
