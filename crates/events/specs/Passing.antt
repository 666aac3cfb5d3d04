-- A body of bytes that passes is, byte for byte, the one that its event writes.
use Rattle.std.specs.Prelude.{ℕ, suc, ◌+◌, ◌-◌, ◌<◌, ◌≡◌, refl, List, ◌∷◌, ◌++◌, map, true, false, length, take, drop}
use Rattle.std.proofs.Math.Numerals.{towards_suc}
use Rattle.std.proofs.Common.{arith, ap, ◌∙◌}
use Rattle.std.proofs.Math.ListN.{get_or, replicate}
use Rattle.laws.specs.Lists.{All, range}
use Rattle.laws.specs.Words.{word16_at, word32_at, bytes16, bytes32}
use Rattle.laws.specs.WordLaws.{bytes16_word, bytes32_word, word16_part, word32_part}
use Rattle.laws.specs.Parts.{get_or_part}
use Rattle.laws.specs.Alls.{all_anywhere}
use Rattle.events.specs.declared.Event.{Event}
use Rattle.events.specs.declared.Fields.{Fields}
use Rattle.events.specs.Layout.{BODY, SUBJECT_AT, FIRST_AT, SECOND_AT, QUANTITY_AT, PRICE_AT, FIRST_KIND_AT, SECOND_KIND_AT, LAST_AT, marks_of}
use Rattle.events.specs.Body.{kind_of, is_kind, fields_of, body, masked, body_of, fields_at, event_rows, event_from, event_read, spare_set, InWidth, Fits}
use Rattle.events.specs.Spare.{of_kind, masked_same}

-- the fields of a body, read where it stands
pub fields_part : (file : List ℕ) (at : ℕ) → fields_at (take BODY (drop at file)) 0 ≡ fields_at file at
unfolding fields_at
fields_part file at =
    let subject = word16_part file at BODY SUBJECT_AT (omega arith) in
    let one = get_or_part file at BODY FIRST_AT 0 (omega arith) in
    let two = get_or_part file at BODY SECOND_AT 0 (omega arith) in
    let quantity = word32_part file at BODY QUANTITY_AT (omega arith) in
    let price = word32_part file at BODY PRICE_AT (omega arith) in
    let kind_one = get_or_part file at BODY FIRST_KIND_AT 0 (omega arith) in
    let kind_two = get_or_part file at BODY SECOND_KIND_AT 0 (omega arith) in
    λ i. record { subject = subject i; first = one i; second = two i; quantity = quantity i; price = price i; firstkind = kind_one i; secondkind = kind_two i }

-- the bytes of a body in which its fields stand, the others 0
abbrev field_bytes : List ℕ → List ℕ
field_bytes b = map (λ j. get_or b j 0) (range 0 LAST_AT) ++ replicate (BODY - LAST_AT) 0

-- the bytes of a word that is read at a place are those that stand there
module _ (b : List ℕ) (small : All (λ x. x < 256) b) where
  byte : (i : ℕ) → get_or b i 0 < 256
  byte i = all_anywhere (λ x. x < 256) b i 0 (omega arith) small

  pub word16_back : (j : ℕ) → bytes16 (word16_at b j) ≡ map (λ k. get_or b k 0) (range j 2)
  word16_back j = simp towards_suc (bytes16_word (get_or b j 0) (get_or b (suc j) 0) (byte j) (byte (suc j)))

  word32_back : (j : ℕ) → bytes32 (word32_at b j) ≡ map (λ k. get_or b k 0) (range j 4)
  word32_back j =
      simp towards_suc
      (bytes32_word (get_or b j 0) (get_or b (suc j) 0) (get_or b (suc (suc j)) 0) (get_or b (suc (suc (suc j))) 0)
      (byte j) (byte (suc j)) (byte (suc (suc j))) (byte (suc (suc (suc j)))))

  -- the fields that are read from a body are written into the bytes that they were read from
  fields_back : body (fields_at b 0) ≡ field_bytes b
  unfolding body fields_at
  fields_back =
      let s = word16_back SUBJECT_AT in
      let q = word32_back QUANTITY_AT in
      let p = word32_back PRICE_AT in
      λ i. s i ++ get_or b FIRST_AT 0 ∷ get_or b SECOND_AT 0 ∷ q i ++ p i ++ get_or b FIRST_KIND_AT 0 ∷ get_or b SECOND_KIND_AT 0 ∷ replicate (BODY - LAST_AT) 0

-- ---- what holds of each kind, each by one computation over all rows of the tables

-- an event is of the kind that it was read as
kind_back : (f : Fields) (kind : ℕ) → is_kind kind ≡ true → kind_of (event_from kind f) ≡ kind
unfolding kind_of event_from
kind_back f = of_kind (λ k. kind_of (event_from k f)) (λ k. k) refl

-- its body has those of the fields' bytes that the kind uses
body_back : (f : Fields) (kind : ℕ) → is_kind kind ≡ true → body_of (event_from kind f) ≡ masked (marks_of kind) (body f)
unfolding kind_of fields_of event_from marks_of masked body
body_back f = of_kind (λ k. body_of (event_from k f)) (λ k. masked (marks_of k) (body f)) refl

-- a kind uses no byte in which no field stands
fields_only : (b : List ℕ) (kind : ℕ) → is_kind kind ≡ true → masked (marks_of kind) (field_bytes b) ≡ masked (marks_of kind) b
unfolding marks_of masked
fields_only b = of_kind (λ k. masked (marks_of k) (field_bytes b)) (λ k. masked (marks_of k) b) refl

-- the event that is read does not depend on a spare byte
pub used_only : (b : List ℕ) (kind : ℕ) → is_kind kind ≡ true → event_read kind (masked (marks_of kind) b) ≡ event_read kind b
unfolding marks_of masked event_from fields_at
used_only b = of_kind (λ k. event_read k (masked (marks_of k) b)) (λ k. event_read k b) refl

-- one event that passes
pub event_back : (kind : ℕ) (b : List ℕ) → length b ≡ BODY → All (λ x. x < 256) b → is_kind kind ≡ true → spare_set kind b ≡ false
    → (kind_of (event_read kind b) ≡ kind) × (body_of (event_read kind b) ≡ b)
event_back kind b long small k clear = (
  kind_back (fields_at b 0) kind k,
  body_back (fields_at b 0) kind k
      ∙ ap (masked (marks_of kind)) (fields_back b small)
      ∙ fields_only b kind k
      ∙ masked_same (marks_of kind) b long clear,
)

-- ---- the event of a body of bytes fits its fields

-- each row of the table of kinds does
fits_from : (kind : ℕ) (f : Fields) → InWidth f → Fits (event_from kind f)
unfolding fields_of event_from
fits_from kind f h =
    all_anywhere Fits (event_rows f) kind Event.Close (omega arith)
    (omega arith, (omega arith, (omega arith, (omega arith, (omega arith, omega arith)))))

fields_fit : (b : List ℕ) → All (λ x. x < 256) b → InWidth (fields_at b 0)
unfolding fields_at
fields_fit b small =
    record {
      subject = word16_small SUBJECT_AT;
      first = byte b small FIRST_AT;
      second = byte b small SECOND_AT;
      quantity = word32_small QUANTITY_AT;
      price = word32_small PRICE_AT;
      firstkind = byte b small FIRST_KIND_AT;
      secondkind = byte b small SECOND_KIND_AT;
    }
  where
    word16_small : (j : ℕ) → word16_at b j < 65536
    word16_small j = omega (arith, byte b small j, byte b small (j + 1))

    word32_small : (j : ℕ) → word32_at b j < 4294967296
    word32_small j =
        omega (arith, byte b small j, byte b small (j + 1), byte b small (j + 2), byte b small (j + 3))

pub event_fits : (kind : ℕ) (b : List ℕ) → All (λ x. x < 256) b → Fits (event_read kind b)
event_fits kind b small = fits_from kind (fields_at b 0) (fields_fit b small)
