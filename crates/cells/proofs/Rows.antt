-- A row whose numbers are taken out of its table together, and one whose numbers are put there together: for every width and every decoder.
use Prim.Native.Nat.{ℕ, suc, ◌+◌, ◌*◌, ◌<◌}
use native.Mathlib.Omega.{arith}
use mathlib.Core.Path.{◌≡◌, ap, sym, ◌∙◌}
use mathlib.Core.List.{List, ◌∷◌}
use lib.ListN.{length, get_or, take, drop, set}
use lib.Seq.{sets}
use Rattle.laws.specs.Parts.{get_or_part}
use Rattle.cells.specs.Table.{table_from, Reads}
use Rattle.cells.specs.Laws as law

module _ {A : Type 0} (none : A) (w n : ℕ) (from : List ℕ → ℕ → A) (reads : Reads w from) where
  pub row_taken : (xs cells : List ℕ) (k : ℕ) → k < n → cells ≡ take w (drop (w * k) xs) → from cells 0 ≡ get_or (table_from w n from xs) k none
  row_taken xs cells k inside e =
      reads cells xs 0 (w * k) (λ d h. ap (λ (l : List ℕ). get_or l (0 + d) 0) e ∙ get_or_part xs (w * k) w (0 + d) 0 (omega (arith, h)) ∙ ap (λ (j : ℕ). get_or xs (w * k + j) 0) (omega arith))
      ∙ sym (law.place_is none w n from xs k inside)

  pub row_put : (xs ys : List ℕ) (k v : ℕ) (vs : List ℕ) (a : A) → length xs ≡ w * n → k < n → suc (length vs) ≡ w → from (v ∷ vs) 0 ≡ a → ys ≡ sets xs (w * k) (v ∷ vs)
      → table_from w n from ys ≡ set (table_from w n from xs) k a
  row_put xs ys k v vs a long inside size is e =
      ap (table_from w n from) (e ∙ sym (law.cells_stored xs (w * k) v vs)) ∙ law.row_stored none w n from reads xs k v vs a long inside size is
