-- A page on which the kind bytes and the bodies are written one after the other.
use Prim.Native.Nat.{ℕ, ◌+◌, ◌*◌, ◌≤◌, ◌<◌}
use native.Mathlib.Nat.{mul-zero, mul-suc, add_comm}
use native.Mathlib.Numerals.{add-one}
use native.Mathlib.Omega.{arith}
use mathlib.Core.Path.{◌≡◌, refl, ap, ap₂, sym, ◌∙◌}
use mathlib.Core.List.{List, [], ◌∷◌, ◌++◌, map, append-nil}
use lib.ListN.{length, get_or, take, drop, length-append, length-map}
use lib.Seq.{sets, take-suc, length-take-le}
use Rattle.laws.specs.Words.{bytes16}
use Rattle.laws.specs.Limits.{EVENTS}
use Rattle.laws.specs.Lists.{All, each}
use Rattle.laws.specs.Alls.{all_append}
use Rattle.laws.specs.Listed.{each_append}
use Rattle.laws.specs.Parts.{sets_then, sets_front}
use Rattle.events.specs.declared.Event.{Event}
use Rattle.events.specs.declared.Fields.{Fields}
use Rattle.events.specs.Layout.{BODY}
use Rattle.events.specs.Body.{kind_of, fields_of, body, body_of, Fits}
use Rattle.events.specs.Inverse.{told}
use Rattle.files.specs.Layout.{COUNT_AT, WIDTH_AT, HEADER}
use Rattle.files.specs.File.{size, header_of, file_of, ReadsBack}
use Rattle.files.specs.Inverse.{length_file, page_reads_back}

-- an event's fields, written, are its body, as they stand in bytes that its kind uses
pub event_written : (page next : List ℕ) (at : ℕ) (e : Event) (f : Fields) → next ≡ sets page at (body f) → f ≡ fields_of e → next ≡ sets page at (body_of e)
event_written page next at e f p q =
    p ∙ ap (λ (x : Fields). sets page at (body x)) q ∙ ap (sets page at) (sym (told e).used)

-- the kind bytes as parts of one byte
abbrev pub kind_byte : Event → List ℕ
kind_byte e = kind_of e ∷ []

-- one more part: what the next element writes, where those before it end
module _ {A : Type 0} (part : A → List ℕ) (width : ℕ) (wide : (x : A) → length (part x) ≡ width) where
  length_parts : (xs : List A) → length (each part xs) ≡ width * length xs
  length_parts [] = sym (mul-zero width)
  length_parts (x ∷ xs) =
      length-append (part x) (each part xs) ∙ ap₂ (λ (a b : ℕ). a + b) (wide x) (length_parts xs) ∙ add_comm width (width * length xs) ∙ sym (mul-suc width (length xs))

  pub part_written : (page₀ page next : List ℕ) (xs : List A) (at i j : ℕ) (d : A) → page ≡ sets page₀ at (each part (take i xs)) → i < length xs
      → next ≡ sets page j (part (get_or xs i d)) → j ≡ at + width * i → next ≡ sets page₀ at (each part (take (i + 1) xs))
  part_written page₀ page next xs at i j d e h f p =
      let many : length (each part (take i xs)) ≡ width * i = length_parts (take i xs) ∙ ap (λ (k : ℕ). width * k) (length-take-le i xs (omega arith)) in
      let more : each part (take (i + 1) xs) ≡ each part (take i xs) ++ part (get_or xs i d) =
      rw (add-one i, take-suc xs i d h) (each_append part (take i xs) (get_or xs i d ∷ []) ∙ ap (λ (l : List ℕ). each part (take i xs) ++ l) (append-nil (part (get_or xs i d)))) in
      sets_then page₀ page next (each part (take i xs)) (part (get_or xs i d)) at j e f (omega (arith, many)) ∙ ap (sets page₀ at) (sym more)

-- P holds of one more element
pub all_more : {A : Type 0} (P : A → Type 0) (xs : List A) (i : ℕ) (d : A) → i < length xs → All P (take i xs) → P (get_or xs i d) → All P (take (i + 1) xs)
all_more P xs i d h before here =
    rw (add-one i, take-suc xs i d h) (all_append P (take i xs) (get_or xs i d ∷ []) before (here, tt))

-- ---- the whole file

whole : (es : List Event) (n : ℕ) → length es ≡ n → header_of n ++ map kind_of es ++ each body_of es ≡ file_of es
unfolding file_of
whole es n long = ap (λ (k : ℕ). header_of k ++ map kind_of es ++ each body_of es) (sym long)

pub file_written : (l l₁ l₂ l₃ l₄ : List ℕ) (es : List Event) (n : ℕ) → length es ≡ n → size n ≤ length l
    → l₁ ≡ sets l COUNT_AT (bytes16 n) → l₂ ≡ sets l₁ WIDTH_AT (bytes16 BODY) → l₃ ≡ sets l₂ HEADER (map kind_of es) → l₄ ≡ sets l₃ (HEADER + n) (each body_of es)
    → l₄ ≡ file_of es ++ drop (length (file_of es)) l
file_written l l₁ l₂ l₃ l₄ es n long room e₁ e₂ e₃ e₄ =
    let a = sets_then l l₁ l₂ (bytes16 n) (bytes16 BODY) 0 WIDTH_AT e₁ e₂ refl in
    let b = sets_then l l₂ l₃ (header_of n) (map kind_of es) 0 HEADER a e₃ refl in
    let c = sets_then l l₃ l₄ (header_of n ++ map kind_of es) (each body_of es) 0 (HEADER + n) b e₄ (omega (arith, length-map es kind_of)) in
    c ∙ ap (sets l 0) (whole es n long) ∙ sets_front l (file_of es) (omega (arith, length_file es))

-- the page reads back as the events that were written
pub read_back : (es : List Event) (page rest : List ℕ) (n : ℕ) → length es ≡ n → n ≤ EVENTS → All Fits es → page ≡ file_of es ++ rest → ReadsBack es (take (size n) page)
read_back es page rest n long few fit e = rw (e, ← long) (page_reads_back es rest (omega arith) fit)
