-- A file of bytes that passes is, byte for byte, the file that its events write.
use Rattle.std.specs.Prelude.{ℕ, suc, ◌+◌, ◌-◌, ◌*◌, ◌≤◌, ◌<◌, min, ◌≡◌, refl, List, [], ◌∷◌, ◌++◌, map, true, false, not, eqb, ltb, length, take, drop}
use Rattle.std.proofs.Common.{arith, ap, ap₂, sym, ◌∙◌, append_assoc, length-take, length-drop, take-append-drop, drop-drop, length-take-le, eqb-true, ltb-false}
use Rattle.std.proofs.lemmas.List.{length-map}
use Rattle.std.proofs.lemmas.Bool.{not-false}
use Rattle.laws.specs.Limits.{EVENTS}
use Rattle.laws.specs.Lists.{All, each}
use Rattle.laws.specs.Asked.{Said, passed, failed, ask}
use Rattle.laws.specs.Refusals.{Reason, ◌⇒◌, first, first_neither, none_applies}
use Rattle.laws.specs.Words.{word16_at, bytes16}
use Rattle.laws.specs.Parts.{all_take, all_drop, read_part}
use Rattle.events.specs.Layout.{BODY}
use Rattle.events.specs.Body.{kind_of, is_kind, body_of, spare_set, Fits}
use Rattle.events.specs.Passing.{word16_back, event_back, event_fits}
use Rattle.files.specs.Layout.{HEADER, COUNT_AT, WIDTH_AT}
use Rattle.files.specs.File.{count, size, kinds_in, bodies_in, paired, events_of, reasons, checks, refusal, header_of, file_of}

-- where no reason applies, the first event has none and those after it have none
clear_event : (kind : ℕ) (b : List ℕ) (rest : List Reason) → first (reasons kind b ++ rest) ≡ 0
    → (is_kind kind ≡ true) × (spare_set kind b ≡ false) × (first rest ≡ 0)
clear_event kind b rest e = go (ask (is_kind kind)) (ask (spare_set kind b))
  where
    go : Said (is_kind kind) → Said (spare_set kind b) → (is_kind kind ≡ true) × (spare_set kind b ≡ false) × (first rest ≡ 0)
    go (passed k) (failed s) = (k, s, rw (k, s) at e)
    go (passed k) (passed s) = absurd (omega (arith, simp (k, s) at e))
    go (failed k) (failed s) = absurd (omega (arith, simp (k, s) at e))
    go (failed k) (passed s) = absurd (omega (arith, simp (k, s) at e))

-- the kind bytes and the bodies of the events that pass
all_back : (kinds bodies : List ℕ) → length bodies ≡ BODY * length kinds → All (λ x. x < 256) bodies → first (checks kinds bodies) ≡ 0
    → (map kind_of (paired kinds bodies) ≡ kinds) × (each body_of (paired kinds bodies) ≡ bodies)
all_back [] [] long small e = (refl, refl)
all_back [] (x ∷ bodies) long small e = absurd (omega arith)
all_back (kind ∷ kinds) bodies long small e =
    let clear = clear_event kind (take BODY bodies) (checks kinds (drop BODY bodies)) e in
    let one = event_back kind (take BODY bodies) (length-take-le BODY bodies (omega arith)) (all_take (λ x. x < 256) BODY bodies small) clear.0 clear.1 in
    let more = all_back kinds (drop BODY bodies) (omega (arith, length-drop BODY bodies)) (all_drop (λ x. x < 256) BODY bodies small) clear.2 in (
      ap₂ (λ (x : ℕ) (y : List ℕ). x ∷ y) one.0 more.0,
      ap₂ (λ (x y : List ℕ). x ++ y) one.1 more.1 ∙ take-append-drop BODY bodies,
    )

-- what a file that passes is known to be
pub record Passing (file : List ℕ) : Type 0 where
  pub few : count file ≤ EVENTS
  pub width : word16_at file WIDTH_AT ≡ BODY
  pub long : length file ≡ size (count file)
  pub clear : first (checks (kinds_in file (count file)) (bodies_in file (count file))) ≡ 0

pub passing : (file : List ℕ) → refusal file ≡ 0 → Passing file
unfolding refusal
passing file e =
    let n : ℕ = count file in
    let header : List Reason = (ltb EVENTS n ⇒ 5) ∷ (not (eqb (word16_at file WIDTH_AT) BODY) ⇒ 5) ∷ (not (eqb (length file) (size n)) ⇒ 5) ∷ [] in
    let both = first_neither header (checks (kinds_in file n) (bodies_in file n)) refl e in
    let none = none_applies header refl both.0 in
    record {
      few = ltb-false EVENTS n none.0;
      width = eqb-true (word16_at file WIDTH_AT) BODY (not-false (eqb (word16_at file WIDTH_AT) BODY) none.1.0);
      long = eqb-true (length file) (size n) (not-false (eqb (length file) (size n)) none.1.1.0);
      clear = both.1;
    }

pub length_kinds : (file : List ℕ) → length file ≡ size (count file) → length (kinds_in file (count file)) ≡ count file
length_kinds file e = length-take-le (count file) (drop HEADER file) (omega (arith, length-drop HEADER file))

length_paired : (kinds bodies : List ℕ) → length (paired kinds bodies) ≡ length kinds
length_paired [] bodies = refl
length_paired (kind ∷ kinds) bodies = ap suc (length_paired kinds (drop BODY bodies))

-- any file has as many events as its count says, and no more than it has bytes after the header
pub length_events : (file : List ℕ) → length (events_of file) ≡ min (count file) (length file - HEADER)
unfolding events_of
length_events file =
    length_paired (kinds_in file (count file)) (bodies_in file (count file))
    ∙ length-take (count file) (drop HEADER file)
    ∙ ap (min (count file)) (length-drop HEADER file)

-- a file of the right length has as many events as its count says
pub events_counted : (file : List ℕ) → length file ≡ size (count file) → length (events_of file) ≡ count file
events_counted file e = omega (arith, length_events file)

-- the bytes of the header, the count and the width
header_back : (file : List ℕ) → HEADER ≤ length file → All (λ x. x < 256) file → word16_at file WIDTH_AT ≡ BODY → header_of (count file) ≡ take HEADER file
header_back file h small w =
    ap₂ (λ (x y : List ℕ). x ++ y) (word16_back file small COUNT_AT) (ap bytes16 (sym w) ∙ word16_back file small WIDTH_AT)
    ∙ read_part file 0 0 HEADER (omega arith)

-- a file of bytes that passes is the file of its events
pub passing_same : (file : List ℕ) → All (λ x. x < 256) file → refusal file ≡ 0 → file_of (events_of file) ≡ file
unfolding file_of events_of
passing_same file small e =
    let p : Passing file = passing file e in
    let n : ℕ = count file in
    let kinds : List ℕ = kinds_in file n in
    let bodies : List ℕ = bodies_in file n in
    let many : length kinds ≡ n = length_kinds file p.long in
    let back = all_back kinds bodies (omega (arith, length-drop (HEADER + n) file, many, p.long)) (all_drop (λ x. x < 256) (HEADER + n) file small) p.clear in
    let counted : length (paired kinds bodies) ≡ n = sym (length-map (paired kinds bodies) kind_of) ∙ ap length back.0 ∙ many in
    ap₂ (λ (x y : List ℕ). x ++ y)
    (ap₂ (λ (k : ℕ) (x : List ℕ). header_of k ++ x) counted back.0) back.1
    ∙ append_assoc (header_of n) kinds bodies
    ∙ ap₂ (λ (x y : List ℕ). x ++ y) (header_back file (omega (arith, p.long)) small p.width)
    (ap (λ (x : List ℕ). kinds ++ x) (sym (drop-drop n HEADER file)) ∙ take-append-drop n (drop HEADER file))
    ∙ take-append-drop HEADER file

-- ---- the events of a file of bytes fit their fields

fits_paired : (kinds bodies : List ℕ) → All (λ x. x < 256) bodies → All Fits (paired kinds bodies)
fits_paired [] bodies small = tt
fits_paired (kind ∷ kinds) bodies small = (
  event_fits kind (take BODY bodies) (all_take (λ x. x < 256) BODY bodies small),
  fits_paired kinds (drop BODY bodies) (all_drop (λ x. x < 256) BODY bodies small),
)

pub events_fit : (file : List ℕ) → All (λ x. x < 256) file → All Fits (events_of file)
unfolding events_of
events_fit file small =
    fits_paired (kinds_in file (count file)) (bodies_in file (count file)) (all_drop (λ x. x < 256) (HEADER + count file) file small)
