-- The pages that are printed one after the other are the transcript.
use Rattle.std.specs.Prelude.{ℕ, ◌+◌, ◌-◌, ◌≤◌, ◌≡◌, List, ◌++◌, length, take, drop, Ok}
use Rattle.std.proofs.Common.{arith, ap, ap₂, sym, ◌∙◌, append_assoc, length-drop, drop_of_length-le, length-take-le}
use Rattle.laws.specs.Answers.{number, number_some}
use Rattle.laws.specs.Refusals.{accepted_zero, accepted_not}
use Rattle.laws.specs.declared.Refusal.{Refusal}
use Rattle.events.specs.declared.Event.{Event}
use Rattle.files.specs.File.{events_of}
use Rattle.plain.specs.Book as plain
use Rattle.plain.specs.Histories.{run, calls_of}
use Rattle.machine.specs.declared.Core.{Core}
use Rattle.machine.specs.declared.Numbers.{Numbers}
use Rattle.machine.specs.View.{book_of, Blank}
use Rattle.report.specs.Lines.{refusal_line}
use Rattle.report.specs.Pages.{put_front}
use Rattle.transcript.specs.declared.Started.{Started}
use Rattle.transcript.specs.declared.Played.{Played}
use Rattle.transcript.specs.Transcript.{file_in, events_in, opened, input_refusal, events_text, end_text, transcript}
use Rattle.transcript.specs.Playing.{StartedOn, PlayedOn, between}
use Rattle.transcript.specs.Texts.{rest_split, run_rest, text_append}

-- What the program prints from the i-th event of a file on: the used bytes of each page that events were played into, and at the end the lines
-- of the positions and accounts
pub data Printed (file : List ℕ) : Core → Numbers → ℕ → List ℕ → Type 0 where
  finished : {b : Core} {a : Numbers} {i : ℕ} → length (events_of file) ≤ i → Printed file b a i (end_text (book_of b a))
  page : {b : Core} {a z : Numbers} {i : ℕ} {entry exit rest : List ℕ} {r : Played} → PlayedOn file b a i entry exit z r → Printed file r.core z r.next rest → Printed file b a i (take r.used exit ++ rest)

-- what is to be printed from the i-th of the events on
abbrev pub left : List Event → plain.Book → ℕ → List ℕ
left es b i = events_text b (i + 1) (drop i es) ++ end_text (run b (calls_of (drop i es)))

pub none_left : (es : List Event) (b : plain.Book) (i : ℕ) → length es ≤ i → end_text b ≡ left es b i
unfolding events_text run
none_left es b i h = rw (drop_of_length-le es {i = i} h)

module _ (es : List Event) (b : plain.Book) (i j : ℕ) (low : i ≤ j) (high : j ≤ length es) where
  abbrev these : List Event
  these = take (j - i) (drop i es)

  some_left : events_text b (i + 1) these ++ left es (run b (calls_of these)) j ≡ left es b i
  some_left =
      let after = run b (calls_of these) in
      let number : i + 1 + length these ≡ j + 1 = omega (arith, length-take-le (j - i) (drop i es) (omega (arith, length-drop i es))) in
      sym (append_assoc (events_text b (i + 1) these) (events_text after (j + 1) (drop j es)) (end_text (run after (calls_of (drop j es)))))
      ∙ ap₂ (λ (t u : List ℕ). t ++ u)
      (ap (λ (k : ℕ). events_text b (i + 1) these ++ events_text after k (drop j es)) (sym number) ∙ sym (text_append b (i + 1) these (drop j es)) ∙ ap (events_text b (i + 1)) (sym (rest_split es i j low)))
      (ap end_text (run_rest es i j low b))

-- the text of the events that were played into a page, and then what is left after them
pub page_left : (file : List ℕ) {b : Core} {a z : Numbers} {i : ℕ} {entry exit : List ℕ} {r : Played} → i ≤ length (events_of file) → PlayedOn file b a i entry exit z r → events_text (book_of b a) (i + 1) (between file i r.next) ++ left (events_of file) (book_of r.core z) r.next ≡ left (events_of file) (book_of b a) i
page_left file {b = b} {a = a} {i = i} {r = r} within p =
    let es = events_of file in
    ap (λ (c : plain.Book). events_text (book_of b a) (i + 1) (between file i r.next) ++ left es c r.next) p.played.book
    ∙ some_left es (book_of b a) i r.next p.reached (omega (arith, p.within, within))

rest_printed : (file : List ℕ) {b : Core} {a : Numbers} {i : ℕ} {text : List ℕ} → i ≤ length (events_of file) → Printed file b a i text → text ≡ left (events_of file) (book_of b a) i
rest_printed file within (finished {b = b} {a = a} {i = i} h) = none_left (events_of file) (book_of b a) i h
rest_printed file within (page {b = b} {a = a} {i = i} {entry = entry} {exit = exit} {r = r} p more) =
    ap₂ (λ (t u : List ℕ). t ++ u)
    (put_front (events_text (book_of b a) (i + 1) (between file i r.next)) entry exit r.used p.text)
    (rest_printed file (omega (arith, p.within)) more)
    ∙ page_left file within p

-- an input that is not refused: all that is left at its first event is the transcript
pub all_left : (input : List ℕ) (s : Started) → StartedOn input (Ok s) → left (events_in input) (opened input) 0 ≡ transcript input
unfolding transcript
all_left input s on =
    sym (accepted_zero (input_refusal input) (left (events_in input) (opened input) 0) (refusal_line (input_refusal input)) (sym on.number))

-- what is printed for it is the transcript
pub whole : (input : List ℕ) (s : Started) (a : Numbers) {text : List ℕ} → StartedOn input (Ok s) → Blank a → Printed (file_in input) s.core a 0 text → text ≡ transcript input
whole input s a on blank p =
    rest_printed (file_in input) (omega arith) p
    ∙ ap (λ (b : plain.Book). left (events_in input) b 0) (on.ready.opened.opened.book a blank)
    ∙ all_left input s on

-- a refused input: the line of its refusal is
pub refused : (input : List ℕ) (r : Refusal) → number r ≡ input_refusal input → refusal_line (number r) ≡ transcript input
unfolding transcript
refused input r e =
    ap refusal_line e
    ∙ sym (accepted_not (input_refusal input) (left (events_in input) (opened input) 0) (refusal_line (input_refusal input)) (λ z. number_some r (e ∙ z)))
