-- A table by number from 0, at a number that no arm of a `match` on the rows 1, 2 and so on took. The number of rows is any.
use Prim.Native.Nat.{ℕ, zero, suc, ◌≤◌, ◌<◌}
use native.Mathlib.Omega.{arith}
use mathlib.Core.Path.{◌≡◌, refl, sym, ◌∙◌}
use mathlib.Core.List.{List, ◌∷◌}
use lib.ListN.{length, get_or, get_or-eq_default}
use lib.Dec.{eqb}
use borrow.Author.Tests.{eqb-true, eqb-false}
use Rattle.laws.specs.Asked.{Said, passed, failed, ask}

-- what the last arm knows: the number is none of 1 to n
abbrev pub Others : ℕ → ℕ → Type 0
Others k zero = Unit {0}
Others k (suc n) = Others k n × (k ≡ suc n → ⊥)

none_of : (k n : ℕ) → Others k n → (j : ℕ) → 0 < j → j ≤ n → k ≡ j → ⊥
none_of k zero o j l h e = omega arith
none_of k (suc n) o j l h e = go (λ h. none_of k n o.0 j l h e) (ask (eqb j (suc n)))
  where
    go : (j ≤ n → ⊥) → Said (eqb j (suc n)) → ⊥
    go earlier (passed p) = o.1 (e ∙ eqb-true j (suc n) p)
    go earlier (failed p) = earlier (below (eqb-false j (suc n) p))
      where
        below : (j ≡ suc n → ⊥) → j ≤ n
        below q = omega arith

pub others : {A : Type 0} (z : A) (rows : List A) (k : ℕ) → Others k (length rows) → z ≡ get_or (z ∷ rows) k z
others z rows zero o = refl
others z rows (suc i) o =
    sym (get_or-eq_default rows z (above (λ h. none_of (suc i) (length rows) o (suc i) (omega arith) h refl)))
  where
    above : (suc i ≤ length rows → ⊥) → length rows ≤ i
    above h = omega arith
