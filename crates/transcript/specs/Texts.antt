-- Texts of events, one part after the other.
use Rattle.std.specs.Prelude.{ℕ, suc, ◌+◌, ◌-◌, ◌≤◌, ◌<◌, ◌≡◌, refl, get_or, take, drop}
use Rattle.std.proofs.Common.{add-zero, arith, sym, ◌∙◌, length-drop, take-append-drop, take-suc, get_or-drop, drop-drop}
use Rattle.std.proofs.Math.Path.{ap}
use mathlib.Core.List.{List, [], ◌∷◌, ◌++◌, append_assoc, append-nil}
use Rattle.std.proofs.Math.ListN.{length}
use Rattle.std.proofs.Math.Seq.{length-take-le}
use Rattle.events.specs.declared.Event.{Event}
use Rattle.plain.specs.Book.{Book}
use Rattle.plain.specs.Calls.{call}
use Rattle.plain.specs.Histories.{next, run, calls_of}
use Rattle.transcript.specs.Transcript.{event_text, events_text}

-- the book after some events and then others
pub run_append : (b : Book) (es fs : List Event) → run b (calls_of (es ++ fs)) ≡ run (run b (calls_of es)) (calls_of fs)
unfolding run
run_append b [] fs = refl
run_append b (e ∷ es) fs = run_append (next b (call e 1024)) es fs

-- the text of some events and then others
pub text_append : (b : Book) (n : ℕ) (es fs : List Event) → events_text b n (es ++ fs) ≡ events_text b n es ++ events_text (run b (calls_of es)) (n + length es) fs
unfolding events_text run
text_append b n [] fs = ap (λ (k : ℕ). events_text b k fs) (sym (add-zero n))
text_append b n (e ∷ es) fs =
    let after = next b (call e 1024) in
    let same : suc n + length es ≡ n + suc (length es) = omega arith in
    ap (λ (l : List ℕ). event_text b n e ++ l) (text_append after (suc n) es fs ∙ ap (λ (k : ℕ). events_text after (suc n) es ++ events_text (run after (calls_of es)) k fs) same)
    ∙ sym (append_assoc (event_text b n e) (events_text after (suc n) es) (events_text (run after (calls_of es)) (n + suc (length es)) fs))

-- Of the events of a list from one place up to another, one more
module _ (l : List Event) (from to : ℕ) (d e : Event) (low : from ≤ to) (high : to < length l) (is : e ≡ get_or l to d) where
  abbrev before : List Event
  before = take (to - from) (drop from l)

  inside : to - from < length (drop from l)
  inside = omega (arith, length-drop from l)

  pub one_more : take (to + 1 - from) (drop from l) ≡ before ++ (e ∷ [])
  one_more =
      let longer : to + 1 - from ≡ suc (to - from) = omega arith in
      let place : from + (to - from) ≡ to = omega arith in
      ap (λ (k : ℕ). take k (drop from l)) longer
      ∙ take-suc (drop from l) (to - from) d inside
      ∙ ap (λ (x : Event). before ++ (x ∷ [])) (get_or-drop from l (to - from) d ∙ ap (λ (k : ℕ). get_or l k d) place ∙ sym is)

  pub text_more : (b : Book) → events_text b (from + 1) (take (to + 1 - from) (drop from l)) ≡ events_text b (from + 1) before ++ event_text (run b (calls_of before)) (to + 1) e
  unfolding events_text
  text_more b =
      let number : from + 1 + length before ≡ to + 1 = omega (arith, length-take-le (to - from) (drop from l) (omega (arith, inside))) in
      ap (events_text b (from + 1)) one_more
      ∙ text_append b (from + 1) before (e ∷ [])
      ∙ ap (λ (t : List ℕ). events_text b (from + 1) before ++ t) (append-nil (event_text (run b (calls_of before)) (from + 1 + length before) e) ∙ ap (λ (k : ℕ). event_text (run b (calls_of before)) k e) number)

  pub run_more : (b : Book) → run b (calls_of (take (to + 1 - from) (drop from l))) ≡ next (run b (calls_of before)) (call e 1024)
  unfolding run
  run_more b = ap (λ (es : List Event). run b (calls_of es)) one_more ∙ run_append b before (e ∷ [])

-- The events of a list from a place on: those up to another place, and the rest
module _ (l : List Event) (from to : ℕ) (low : from ≤ to) where
  pub rest_split : drop from l ≡ take (to - from) (drop from l) ++ drop to l
  rest_split =
      let place : from + (to - from) ≡ to = omega arith in
      sym (take-append-drop (to - from) (drop from l))
      ∙ ap (λ (r : List Event). take (to - from) (drop from l) ++ r) (drop-drop (to - from) from l ∙ ap (λ (k : ℕ). drop k l) place)

  pub run_rest : (b : Book) → run (run b (calls_of (take (to - from) (drop from l)))) (calls_of (drop to l)) ≡ run b (calls_of (drop from l))
  run_rest b = sym (run_append b (take (to - from) (drop from l)) (drop to l)) ∙ ap (λ (r : List Event). run b (calls_of r)) (sym rest_split)
