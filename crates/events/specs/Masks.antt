-- Spare bytes by the word: a body as two words of 64 bits, and the masks of a kind, one a word.
-- Document 02, 'Spare bytes by the word'.
use Rattle.std.specs.Prelude.{ℕ, ◌<◌, ◌≡◌, refl, ◌↔◌, List, ◌++◌, map, Bool, true, false, not, ◌&&◌, ◌||◌, eqb, get_or}
use Rattle.std.proofs.Common.{zero-add, arith, ap, ap₂, sym, ◌∙◌, eq-eqb, eqb-true}
use Rattle.std.specs.Int.Bits.{bit_and}
use Rattle.std.proofs.lemmas.Bool.{not-false}
use Rattle.laws.specs.Lists.{range}
use Rattle.laws.specs.Alls.{some_append}
use Rattle.laws.specs.Masks.{mask_of, set_in, by_mask}
use Rattle.laws.specs.Places.{some_range}
use Rattle.laws.specs.Ranges.{some_none}
use Rattle.laws.specs.Words.{bytes_of}
use Rattle.laws.specs.WordLaws.{nonzero}
use Rattle.events.specs.declared.Masks.{Masks}
use Rattle.events.specs.Layout.{BODY, LOW_AT, HIGH_AT, WORD, marks_of, used}
use Rattle.events.specs.Body.{spare_byte, spare_in, spare_set}

-- the bytes of a body that stands as two words
abbrev pub body_bytes : ℕ → ℕ → List ℕ
body_bytes low high = bytes_of WORD low ++ bytes_of WORD high

-- for each byte of the word that begins at a place of a body, whether marks leave it spare
abbrev pub spare_from : List ℕ → ℕ → List Bool
spare_from marks at = map (λ j. not (used marks j)) (range at WORD)

-- the masks of a body's two words: 255 at each byte that marks leave spare, 0 at the others
unfoldable pub masks_in : List ℕ → Masks
masks_in marks = (mask_of (spare_from marks LOW_AT), mask_of (spare_from marks HIGH_AT))

-- the masks of a kind follow from the table of used bytes
abbrev pub masks_of : ℕ → Masks
masks_of kind = masks_in (marks_of kind)

-- "for every kind and body it passes exactly when each byte that is spare in that kind is zero"
pub passes : (kind : ℕ) (bytes : List ℕ) → (spare_set kind bytes ≡ false) ↔ ((j : ℕ) → j < BODY → used (marks_of kind) j ≡ false → get_or bytes j 0 ≡ 0)
unfolding spare_in
passes kind bytes = (
  λ e j h free. zero_byte (used (marks_of kind) j) (get_or bytes j 0) free (ap spare (sym (zero-add j)) ∙ some_range spare 0 BODY j e h),
  λ clear. some_none spare 0 BODY (λ j _ h. clear_byte (used (marks_of kind) j) (get_or bytes j 0) (clear j (omega arith))),
)
  where
    spare : ℕ → Bool
    spare j = spare_byte (get_or (marks_of kind) j 0) (get_or bytes j 0)

    zero_byte : (u : Bool) (byte : ℕ) → u ≡ false → not u && nonzero byte ≡ false → byte ≡ 0
    zero_byte u byte free e = eqb-true byte 0 (not-false (eqb byte 0) (rw free at e))

    clear_byte : (u : Bool) (byte : ℕ) → (u ≡ false → byte ≡ 0) → not u && nonzero byte ≡ false
    clear_byte true byte h = refl
    clear_byte false byte h = rw (eq-eqb byte 0 (h refl))

-- a body's bytes are tested by its two words under their masks, whatever the marks and the words
pub by_words : (marks : List ℕ) (low high : ℕ)
    → spare_in marks (body_bytes low high) ≡ nonzero (bit_and low (mask_of (spare_from marks LOW_AT))) || nonzero (bit_and high (mask_of (spare_from marks HIGH_AT)))
unfolding spare_in bytes_of set_in
by_words marks low high =
    some_append (λ j. spare_byte (get_or marks j 0) (get_or (body_bytes low high) j 0)) (range LOW_AT WORD) (range HIGH_AT WORD)
    ∙ ap₂ (λ (x y : Bool). x || y) (sym (by_mask (spare_from marks LOW_AT) low)) (sym (by_mask (spare_from marks HIGH_AT) high))
