-- Laws of used and spare bytes, over any marks: no spare byte of masked bytes is set, and bytes of which none is set are masked already.
-- And one law for a table of kinds, whatever their number.
use Rattle.std.specs.Prelude.{ℕ, zero, suc, ◌+◌, ◌-◌, ◌≤◌, ◌<◌, ◌≡◌, refl, List, ◌∷◌, map, Bool, true, false, not, ◌&&◌, eqb, leb, length, get_or}
use Rattle.std.proofs.Common.{zero-add, arith, ap, ap₂, sym, ◌∙◌, take_all, eqb-true, leb-true}
use Rattle.std.proofs.lemmas.Bool.{not-false}
use Rattle.laws.specs.Lists.{only, range}
use Rattle.laws.specs.Asked.{and_left, and_right}
use Rattle.laws.specs.Places.{some_range}
use Rattle.laws.specs.Ranges.{get_or_mapped, some_none}
use Rattle.laws.specs.Parts.{read_part}
use Rattle.laws.specs.WordLaws.{nonzero}
use Rattle.events.specs.Layout.{BODY, KINDS, used}
use Rattle.events.specs.Body.{is_kind, spare_byte, spare_in, masked}

-- ---- functions on the numbers of a range

module _ {A : Type 0} where
  same_on : (f g : ℕ → A) (a n : ℕ) → ((k : ℕ) → a ≤ k → k < a + n → f k ≡ g k) → map f (range a n) ≡ map g (range a n)
  same_on f g a zero h = refl
  same_on f g a (suc n) h =
      ap₂ (λ (x : A) (xs : List A). x ∷ xs) (h a (omega arith) (omega arith)) (same_on f g (suc a) n (λ k l r. h k (omega arith) (omega arith)))

  same_at : (f g : ℕ → A) (a n k : ℕ) → map f (range a n) ≡ map g (range a n) → a ≤ k → k < a + n → f k ≡ g k
  same_at f g a n k e l r =
      let there : k ≡ a + (k - a) = omega arith in
      let inside : k - a < n = omega arith in
      ap f there ∙ sym (get_or_mapped f a n (k - a) (f 0) inside) ∙ ap (λ (xs : List A). get_or xs (k - a) (f 0)) e ∙ get_or_mapped g a n (k - a) (f 0) inside ∙ ap g (sym there)

  -- two tables that say the same of the numbers 1, 2 and so on, up to the last kind, say the same of each kind
  pub of_kind : (f g : ℕ → A) → map f (range 1 KINDS) ≡ map g (range 1 KINDS) → (kind : ℕ) → is_kind kind ≡ true → f kind ≡ g kind
  of_kind f g e kind k =
      same_at f g 1 KINDS kind e (leb-true 1 kind (and_left (leb 1 kind) (leb kind KINDS) k)) (omega (arith, leb-true kind KINDS (and_right (leb 1 kind) (leb kind KINDS) k)))

-- ---- masked bytes

clear_byte : (b : Bool) (x : ℕ) → not b && nonzero (only b x) ≡ false
clear_byte true x = refl
clear_byte false x = refl

same_byte : (b : Bool) (x : ℕ) → not b && nonzero x ≡ false → only b x ≡ x
same_byte true x e = refl
same_byte false x e = sym (eqb-true x 0 (not-false (eqb x 0) e))

pub length_masked : (marks bytes : List ℕ) → length (masked marks bytes) ≡ BODY
unfolding masked
length_masked marks bytes = refl

masked_byte : (marks bytes : List ℕ) (j : ℕ) → j < BODY → get_or (masked marks bytes) j 0 ≡ only (used marks j) (get_or bytes j 0)
unfolding masked
masked_byte marks bytes j h =
    get_or_mapped (λ k. only (used marks k) (get_or bytes k 0)) 0 BODY j 0 h
    ∙ ap (λ (k : ℕ). only (used marks k) (get_or bytes k 0)) (zero-add j)

-- "Writing sets spare bytes to zero"
pub masked_clear : (marks bytes : List ℕ) → spare_in marks (masked marks bytes) ≡ false
unfolding spare_in
masked_clear marks bytes =
    some_none (λ j. spare_byte (get_or marks j 0) (get_or (masked marks bytes) j 0)) 0 BODY
    (λ j l h. ap (spare_byte (get_or marks j 0)) (masked_byte marks bytes j (omega arith)) ∙ clear_byte (used marks j) (get_or bytes j 0))

pub masked_same : (marks bytes : List ℕ) → length bytes ≡ BODY → spare_in marks bytes ≡ false → masked marks bytes ≡ bytes
unfolding masked spare_in
masked_same marks bytes long e =
    let spare : ℕ → Bool = λ j. spare_byte (get_or marks j 0) (get_or bytes j 0) in
    same_on (λ j. only (used marks j) (get_or bytes j 0)) (λ j. get_or bytes j 0) 0 BODY
    (λ j l h. same_byte (used marks j) (get_or bytes j 0) (ap spare (sym (zero-add j)) ∙ some_range spare 0 BODY j e (omega arith)))
    ∙ read_part bytes 0 0 BODY (omega arith) ∙ take_all BODY bytes (omega arith)
