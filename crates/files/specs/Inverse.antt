-- Reading and writing event files are inverse: a file that is written passes and is read as the events that were
-- written, and a file that passes is, byte for byte, the one that its events write.
use Rattle.std.specs.Prelude.{ℕ, zero, suc, ◌*◌, ◌≤◌, ◌≡◌, refl, List, [], ◌∷◌, ◌++◌, map, true, not, eqb, ltb, length, take, drop}
use Rattle.std.proofs.Common.{arith, ap, ap₂, sym, ◌∙◌, length-append, take_at, drop_at, drop-drop, le-ltb, le-leb, eq-eqb}
use Rattle.std.proofs.Math.Dec.{eqb-suc-zero}
use Rattle.std.proofs.lemmas.List.{length-map}
use Rattle.laws.specs.Limits.{EVENTS}
use Rattle.laws.specs.Lists.{All, each, only}
use Rattle.laws.specs.Asked.{both}
use Rattle.laws.specs.Refusals.{◌⇒◌, first, first_past}
use Rattle.laws.specs.Answers.{REFUSALS, number_in, answer, quantity_of, answer_number, listed, first_listed}
use Rattle.laws.specs.Words.{word16_at}
use Rattle.laws.specs.WordLaws.{nonzero, word16_bytes}
use Rattle.events.specs.declared.Event.{Event}
use Rattle.events.specs.Layout.{BODY, marks_of}
use Rattle.events.specs.Body.{kind_of, fields_of, body, body_of, Fits}
use Rattle.events.specs.Spare.{masked_clear}
use Rattle.events.specs.Inverse.{length_body, told, read_event}
use Rattle.files.specs.Layout.{HEADER, WIDTH_AT}
use Rattle.files.specs.File.{count, size, kinds_in, bodies_in, paired, events_of, reasons, checks, refusal, file_of, writing_refusal, copying_refusal, ReadsBack}

-- ---- lengths

pub length_bodies : (es : List Event) → length (each body_of es) ≡ BODY * length es
length_bodies [] = refl
length_bodies (e ∷ es) = omega (arith, length-append (body_of e) (each body_of es), length_body e, length_bodies es)

pub length_file : (es : List Event) → length (file_of es) ≡ size (length es)
unfolding file_of
length_file es =
    omega (arith, length-append (map kind_of es) (each body_of es), length-map es kind_of, length_bodies es)

-- ---- a list of events, written and read

-- the kind of a written event is a kind, and its spare bytes are zero, whatever the table of used bytes is
clean : (e : Event) → first (reasons (kind_of e) (body_of e)) ≡ 0
clean e = rw ((told e).kind, masked_clear (marks_of (kind_of e)) (body (fields_of e)))

clean_all : (es : List Event) → first (checks (map kind_of es) (each body_of es)) ≡ 0
clean_all [] = refl
clean_all (e ∷ es) =
    rw (take_at (body_of e) (each body_of es) BODY (length_body e), drop_at (body_of e) (each body_of es) BODY (length_body e))
    (first_past (reasons (kind_of e) (body_of e)) (checks (map kind_of es) (each body_of es)) refl (clean e) ∙ clean_all es)

read_all : (es : List Event) → All Fits es → paired (map kind_of es) (each body_of es) ≡ es
read_all [] h = refl
read_all (e ∷ es) h =
    rw (take_at (body_of e) (each body_of es) BODY (length_body e), drop_at (body_of e) (each body_of es) BODY (length_body e))
    (ap₂ (λ (x : Event) (xs : List Event). x ∷ xs) (read_event e h.0) (read_all es h.1))

count_file : (es : List Event) → length es ≤ EVENTS → count (file_of es) ≡ length es
unfolding file_of
count_file es h = word16_bytes (length es) (omega arith)

kinds_file : (es : List Event) → kinds_in (file_of es) (length es) ≡ map kind_of es
unfolding file_of
kinds_file es = take_at (map kind_of es) (each body_of es) (length es) (length-map es kind_of)

bodies_file : (es : List Event) → bodies_in (file_of es) (length es) ≡ each body_of es
unfolding file_of
bodies_file es =
    sym (drop-drop (length es) HEADER (file_of es)) ∙ drop_at (map kind_of es) (each body_of es) (length es) (length-map es kind_of)

width_file : (es : List Event) → word16_at (file_of es) WIDTH_AT ≡ BODY
unfolding file_of
width_file es = refl

-- a file of at most 2,048 events passes
pub written_passes : (es : List Event) → length es ≤ EVENTS → refusal (file_of es) ≡ 0
unfolding refusal
written_passes es h =
    rw (count_file es h, width_file es, kinds_file es, bodies_file es, le-ltb EVENTS (length es) h, eq-eqb (length (file_of es)) (size (length es)) (length_file es))
    (clean_all es)

-- and is read as the events that were written, where they fit their fields; those that a machine holds do, so that the
-- contract of `write_file` says it with no condition
pub written_read : (es : List Event) → length es ≤ EVENTS → All Fits es → events_of (file_of es) ≡ es
unfolding events_of
written_read es h fit = rw (count_file es h, kinds_file es, bodies_file es) (read_all es fit)

-- the written part of a page is the file, whatever stands after it
pub written_front : (es : List Event) (rest : List ℕ) → take (size (length es)) (file_of es ++ rest) ≡ file_of es
written_front es rest = take_at (file_of es) rest (size (length es)) (length_file es)

-- a page that begins with the file of these events reads back as they are
pub page_reads_back : (es : List Event) (rest : List ℕ) → length es ≤ EVENTS → All Fits es → ReadsBack es (take (size (length es)) (file_of es ++ rest))
page_reads_back es rest h fit = record {
  passes = ap refusal (written_front es rest) ∙ written_passes es h;
  read = ap events_of (written_front es rest) ∙ written_read es h fit;
}

-- an answer has the refusal's number, which is one of the papers' list, and the bytes written as its quantity where there is none
pub answer_number_lem : (n bytes : ℕ) → n ≤ REFUSALS → number_in (answer n bytes) ≡ n
answer_number_lem n bytes h = answer_number n bytes h

pub writing_number : (events room bytes : ℕ) → number_in (answer (writing_refusal events room) bytes) ≡ writing_refusal events room
unfolding writing_refusal
writing_number events room bytes =
    answer_number (writing_refusal events room) bytes (first_listed ((ltb EVENTS events ⇒ 5) ∷ (ltb room (size events) ⇒ 5) ∷ []) refl)

checks_listed : (kinds bodies : List ℕ) → listed (checks kinds bodies) ≡ true
checks_listed [] bodies = refl
checks_listed (kind ∷ kinds) bodies = checks_listed kinds (drop BODY bodies)

refusal_listed : (file : List ℕ) → refusal file ≤ REFUSALS
unfolding refusal
refusal_listed file =
    let n = count file in
    first_listed
    ((ltb EVENTS n ⇒ 5) ∷ (not (eqb (word16_at file WIDTH_AT) BODY) ⇒ 5) ∷ (not (eqb (length file) (size n)) ⇒ 5) ∷ checks (kinds_in file n) (bodies_in file n))
    (checks_listed (kinds_in file n) (bodies_in file n))

pub copying_number : (file : List ℕ) (room bytes : ℕ) → number_in (answer (copying_refusal file room) bytes) ≡ copying_refusal file room
unfolding copying_refusal
copying_number file room bytes =
    answer_number (copying_refusal file room) bytes
    (first_listed ((nonzero (refusal file) ⇒ refusal file) ∷ (ltb room (size (count file)) ⇒ 5) ∷ []) (both _ true (le-leb (refusal file) REFUSALS (refusal_listed file)) refl))

pub answer_quantity : (n bytes : ℕ) → quantity_of (answer n bytes) ≡ only (eqb n 0) bytes
answer_quantity zero bytes = refl
answer_quantity (suc n) bytes = rw (eqb-suc-zero n)
