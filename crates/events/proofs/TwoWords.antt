-- The test of a body by its two words.
use Prim.Native.Nat.{ℕ, ◌+◌, ◌≤◌, ◌<◌}
use native.Mathlib.Omega.{arith}
use mathlib.Core.Path.{◌≡◌, ap, ap₂, sym, ◌∙◌}
use mathlib.Core.List.{List, ◌++◌}
use mathlib.Core.Bool.{◌||◌}
use lib.Bits.{bit_and}
use lib.ListN.{length, get_or, take, drop, length-drop, take-append-drop}
use lib.Seq.{length-take-le, take_all}
use Rattle.laws.specs.Alls.{all_anywhere, all_places}
use Rattle.laws.specs.Parts.{all_take, all_drop}
use Rattle.laws.specs.Words.{word64_at}
use Rattle.laws.specs.WordLaws.{nonzero, bytes64_at}
use Rattle.events.specs.declared.Masks.{Masks}
use Rattle.events.specs.Layout.{BODY, WORD, LOW_AT, HIGH_AT, marks_of}
use Rattle.events.specs.Body.{spare_set}
use Rattle.events.specs.Masks.{body_bytes, masks_in, masks_of, by_words}

-- the two words under masks that are those of the kind
pub under_masks : (kind low high : ℕ) (m : Masks) → m ≡ masks_of kind → nonzero (bit_and low m.0) || nonzero (bit_and high m.1) ≡ spare_set kind (body_bytes low high)
unfolding masks_in
under_masks kind low high m e =
    ap (λ (x : Masks). nonzero (bit_and low x.0) || nonzero (bit_and high x.1)) e ∙ sym (by_words (marks_of kind) low high)

-- the bytes of the two words that are read in a part of a file are those of the part
pub two_words : (file : List ℕ) (at n low high : ℕ) → n ≡ BODY → at + BODY ≤ length file → ((i : ℕ) → get_or file i 0 < 256) → low ≡ word64_at (take n (drop at file)) LOW_AT → high ≡ word64_at (take n (drop at file)) HIGH_AT
    → body_bytes low high ≡ take BODY (drop at file)
two_words file at n low high e h small p q =
    let body : List ℕ = take BODY (drop at file) in
    let long : length body ≡ BODY = length-take-le BODY (drop at file) (omega (arith, length-drop at file)) in
    ap₂ body_bytes (p ∙ ap (λ (k : ℕ). word64_at (take k (drop at file)) LOW_AT) e) (q ∙ ap (λ (k : ℕ). word64_at (take k (drop at file)) HIGH_AT) e)
    ∙ ap₂ (λ (x y : List ℕ). x ++ y) (bytes64_at body LOW_AT (omega (arith, long)) bytes)
    (bytes64_at body HIGH_AT (omega (arith, long)) bytes ∙ take_all WORD (drop HIGH_AT body) (omega (arith, long, length-drop HIGH_AT body)))
    ∙ take-append-drop WORD body
  where
    bytes : (i : ℕ) → get_or (take BODY (drop at file)) i 0 < 256
    bytes i = all_anywhere (λ b. b < 256) (take BODY (drop at file)) i 0 (omega arith) (all_take (λ b. b < 256) BODY (drop at file) (all_drop (λ b. b < 256) at file (all_places (λ b. b < 256) file 0 (λ j _. small j))))
