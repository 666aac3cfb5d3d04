-- The table of masks that the code has.
use Prim.Native.Nat.{ℕ}
use mathlib.Core.Path.{◌≡◌, refl, ap, ap₂, sym, ◌∙◌}
use mathlib.Core.List.{List, [], ◌∷◌, map}
use lib.ListN.{length, get_or, get_or-map}
use Rattle.laws.specs.Words.{word_of}
use Rattle.events.specs.declared.Masks.{Masks}
use Rattle.events.specs.Layout.{unmarked, used_bytes, marks_of}
use Rattle.events.specs.Masks.{masks_in, masks_of}
use Rattle.events.proofs.Others.{Others, others}

-- the mask of all eight bytes of a word
abbrev all : ℕ
all = 18446744073709551615

-- the masks where no byte is used, and those of the kinds 1 to 10, as the code has them
abbrev unused : Masks
unused = (all, all)

abbrev pub rows : List Masks
rows =
    (0, 18446462598732840960)
    ∷ (18446744073709486080, 18446744069414584320)
    ∷ (4294901760, all)
    ∷ (18446744073709486080, all)
    ∷ (4278190080, 18446744069414584320)
    ∷ (18446744073709486080, all)
    ∷ (18446744073709486080, all)
    ∷ (18446744073709486080, all)
    ∷ (all, all)
    ∷ (4294901760, 18446744069414584320)
    ∷ []

-- the rule of the table, computed over the whole of it: a mask has 255 at each byte that the table of used bytes leaves spare, 0 at the others
rule : unused ∷ rows ≡ map masks_in used_bytes
unfolding word_of masks_in
rule = refl

-- so it holds of every number, and past the table no byte is used
table : (kind : ℕ) → get_or (unused ∷ rows) kind unused ≡ masks_of kind
unfolding marks_of
table kind =
    let none : unused ≡ masks_in unmarked = unfold word_of masks_in in refl in
    ap₂ (λ (l : List Masks) (m : Masks). get_or l kind m) rule none ∙ get_or-map masks_in used_bytes kind unmarked

-- what an arm for the number k returns, and what the last arm does
pub arm : (k kind : ℕ) → kind ≡ k → get_or (unused ∷ rows) k unused ≡ masks_of kind
arm k kind e = ap (λ (n : ℕ). get_or (unused ∷ rows) n unused) (sym e) ∙ table kind

pub last_arm : (kind : ℕ) → Others kind (length rows) → unused ≡ masks_of kind
last_arm kind o = others unused rows kind o ∙ table kind
