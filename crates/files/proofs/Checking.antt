-- The refusals 6 and 7 that are left to check once i events have passed.
use Prim.Native.Nat.{ℕ, suc, ◌+◌, ◌*◌, ◌≤◌, ◌<◌}
use native.Mathlib.Omega.{arith}
use mathlib.Core.Path.{◌≡◌, refl, ap, ap₂, ◌∙◌}
use mathlib.Core.List.{List, ◌++◌}
use lib.ListN.{length, get_or, take, drop, length-drop}
use lib.Seq.{drop-drop, drop-cons, length-take-le}
use borrow.Author.Tests.{lt-ltb, le-ltb, eq-eqb, ne_eqb}
use Rattle.laws.specs.Limits.{EVENTS}
use Rattle.laws.specs.Refusals.{Reason, first, first_past, first_there}
use Rattle.laws.specs.Parts.{get_or_part}
use Rattle.laws.specs.Words.{word16_at}
use Rattle.events.specs.Layout.{BODY}
use Rattle.files.specs.Layout.{WIDTH_AT, HEADER}
use Rattle.files.specs.File.{refusal, count, size, kinds_in, bodies_in, reasons, checks}
use Rattle.files.proofs.Places.{body_place}

abbrev pub left : List ℕ → ℕ → ℕ → List Reason
left file n i = checks (drop i (kinds_in file n)) (drop (BODY * i) (bodies_in file n))

-- the reasons of the event whose kind byte and body stand at their places
abbrev pub placed : List ℕ → ℕ → ℕ → List Reason
placed file n i = reasons (get_or file (HEADER + i) 0) (take BODY (drop (HEADER + n + BODY * i) file))

module _ (file : List ℕ) (n : ℕ) (long : length file ≡ size n) where
  length_kinds : length (kinds_in file n) ≡ n
  length_kinds = length-take-le n (drop HEADER file) (omega (arith, length-drop HEADER file))

  left_more : (i : ℕ) → i < n → left file n i ≡ placed file n i ++ left file n (suc i)
  left_more i h =
      ap (λ (kinds : List ℕ). checks kinds (drop (BODY * i) (bodies_in file n))) (drop-cons (kinds_in file n) i 0 (omega (arith, length_kinds)))
      ∙ ap₂ (λ (here rest : List Reason). here ++ rest)
      (ap₂ reasons (get_or_part file HEADER n i 0 h) (body_place file (HEADER + n) i))
      (ap (checks (drop (suc i) (kinds_in file n))) (drop-drop BODY (BODY * i) (bodies_in file n) ∙ ap (λ (k : ℕ). drop k (bodies_in file n)) (next i)))
    where
      next : (i : ℕ) → BODY * i + BODY ≡ BODY * suc i
      next i = omega arith

  -- the next event decides, or those after it do
  pub left_here : (i : ℕ) → i < n → (first (placed file n i) ≡ 0 → ⊥) → first (left file n i) ≡ first (placed file n i)
  left_here i h e = ap first (left_more i h) ∙ first_there (placed file n i) (left file n (suc i)) e

  pub left_next : (i : ℕ) → i < n → first (placed file n i) ≡ 0 → first (left file n i) ≡ first (left file n (suc i))
  left_next i h e =
      ap first (left_more i h) ∙ first_past (placed file n i) (left file n (suc i)) refl e

-- ---- refusal 5, and then the events

module _ (file : List ℕ) (n : ℕ) (counted : n ≡ count file) where
  pub too_many : EVENTS < n → 5 ≡ refusal file
  unfolding refusal
  too_many h = rw (← counted, lt-ltb EVENTS n h)

  module _ (few : n ≤ EVENTS) where
    pub other_width : (word16_at file WIDTH_AT ≡ BODY → ⊥) → 5 ≡ refusal file
    unfolding refusal
    other_width h = rw (← counted, le-ltb EVENTS n few, ne_eqb (word16_at file WIDTH_AT) BODY h)

    module _ (width : word16_at file WIDTH_AT ≡ BODY) where
      pub other_length : (length file ≡ size n → ⊥) → 5 ≡ refusal file
      unfolding refusal
      other_length h =
          rw (← counted, le-ltb EVENTS n few, eq-eqb (word16_at file WIDTH_AT) BODY width, ne_eqb (length file) (size n) h)

      pub right_header : (r : ℕ) → length file ≡ size n → r ≡ first (checks (kinds_in file n) (bodies_in file n)) → r ≡ refusal file
      unfolding refusal
      right_header r h e =
          e ∙ rw (← counted, le-ltb EVENTS n few, eq-eqb (word16_at file WIDTH_AT) BODY width, eq-eqb (length file) (size n) h)
