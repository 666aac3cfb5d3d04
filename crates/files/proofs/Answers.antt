-- What writing and copying answer, and the page after them.
use Prim.Native.Nat.{ℕ, zero, suc, ◌≤◌, ◌<◌}
use native.Mathlib.Omega.{arith}
use mathlib.Core.Path.{◌≡◌, refl, ap, ap₂, sym, ◌∙◌}
use mathlib.Core.List.{List}
use lib.ListN.{length, get_or, take}
use borrow.Author.Tests.{lt-ltb, le-ltb, ne_eqb}
use Rattle.laws.specs.Limits.{EVENTS}
use Rattle.laws.specs.Lists.{All}
use Rattle.laws.specs.Answers.{answer}
use Rattle.laws.specs.Parts.{padded, take_padded}
use Rattle.laws.specs.Alls.{all_places}
use Rattle.events.specs.declared.Event.{Event}
use Rattle.files.specs.File.{count, size, events_of, file_of, refusal, writing_refusal, copying_refusal, page_after}
use Rattle.files.specs.Passing.{Passing, passing, passing_same, events_counted}

-- ---- the refusal of writing

pub many : (n room : ℕ) → EVENTS < n → writing_refusal n room ≡ 5
unfolding writing_refusal
many n room h = rw (lt-ltb EVENTS n h)

pub short : (n room : ℕ) → n ≤ EVENTS → room < size n → writing_refusal n room ≡ 5
unfolding writing_refusal
short n room h k = rw (le-ltb EVENTS n h, lt-ltb room (size n) k)

pub enough : (n room : ℕ) → n ≤ EVENTS → size n ≤ room → writing_refusal n room ≡ 0
unfolding writing_refusal
enough n room h k = rw (le-ltb EVENTS n h, le-ltb room (size n) k)

-- ---- a refusal that is not 0

pub kept_page : (r : ℕ) (file page : List ℕ) → (r ≡ 0 → ⊥) → page ≡ page_after r file page
kept_page zero file page h = absurd (h refl)
kept_page (suc r) file page h = refl

-- ---- the refusal of copying

pub refused_file : (file : List ℕ) (room : ℕ) → (refusal file ≡ 0 → ⊥) → copying_refusal file room ≡ refusal file
unfolding copying_refusal
refused_file file room h = rw (ne_eqb (refusal file) 0 h)

passed_file : (file : List ℕ) (room : ℕ) → refusal file ≡ 0 → copying_refusal file room ≡ writing_refusal (count file) room
unfolding copying_refusal writing_refusal
passed_file file room e = rw (e, le-ltb EVENTS (count file) (passing file e).few)

-- the events read from a file that passes are written as the same bytes
copied : (file : List ℕ) → All (λ b. b < 256) file → refusal file ≡ 0 → file_of (take (count file) (padded Event.Close EVENTS (events_of file))) ≡ file
copied file small e =
    let p : Passing file = passing file e in
    let n : length (events_of file) ≡ count file = events_counted file p.long in
    ap (λ (k : ℕ). file_of (take k (padded Event.Close EVENTS (events_of file)))) (sym n)
    ∙ ap file_of (take_padded Event.Close EVENTS (events_of file) (omega (arith, p.few)))
    ∙ passing_same file small e

-- writing the events that were read is copying the file
module _ (file page : List ℕ) (events : List Event) (n : ℕ) (small : (i : ℕ) → get_or file i 0 < 256) (passes : refusal file ≡ 0) (number : n ≡ count file) (read : events ≡ padded Event.Close EVENTS (events_of file)) where
  pub copy_answer : answer (writing_refusal n (length page)) (size n) ≡ answer (copying_refusal file (length page)) (length file)
  copy_answer = rw (passed_file file (length page) passes, number, (passing file passes).long)

  pub copy_page : page_after (writing_refusal n (length page)) (file_of (take n events)) page ≡ page_after (copying_refusal file (length page)) file page
  copy_page =
      ap₂ (λ (r : ℕ) (f : List ℕ). page_after r f page)
      (ap (λ (k : ℕ). writing_refusal k (length page)) number ∙ sym (passed_file file (length page) passes))
      (ap₂ (λ (k : ℕ) (es : List Event). file_of (take k es)) number read ∙ copied file (all_places (λ b. b < 256) file 0 (λ i h. small i)) passes)
