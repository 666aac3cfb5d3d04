-- A list whose first places are taken from another.
use mathlib.Core.Path.{◌≡◌, sym, ◌∙◌, ap}
use Prim.Native.Nat.{ℕ, suc, ◌+◌, ◌<◌, ◌≤◌}
use native.Mathlib.Numerals.{add-one}
use native.Mathlib.Omega.{arith}
use mathlib.Core.List.{List, [], ◌∷◌, ◌++◌, append_assoc}
use lib.Seq.{length-take-le, drop-cons, take-suc, set_at}
use lib.ListN.{length, get_or, set, take, drop, length-append, length-drop}

module _ {X : Type 0} (xs ys : List X) where
  -- the first i places are those of xs, the others those of ys
  abbrev pub overwritten : ℕ → List X
  overwritten i = take i xs ++ drop i ys

  pub overwritten_length : (i : ℕ) → i ≤ length xs → i ≤ length ys → length (overwritten i) ≡ length ys
  overwritten_length i l m = omega (arith, length-append (take i xs) (drop i ys), length-take-le i xs l, length-drop i ys)

  -- one place more
  pub overwritten_next : (i : ℕ) (d : X) → i < length xs → i < length ys → set (overwritten i) i (get_or xs i d) ≡ overwritten (i + 1)
  overwritten_next i d l m =
      ap (λ (t : List X). set (take i xs ++ t) i x) (drop-cons ys i d m)
      ∙ set_at (take i xs) (get_or ys i d) (drop (suc i) ys) x i (length-take-le i xs (omega arith))
      ∙ sym (append_assoc (take i xs) (x ∷ []) (drop (suc i) ys))
      ∙ ap (λ (t : List X). t ++ drop (suc i) ys) (sym (take-suc xs i d l))
      ∙ ap overwritten (sym (add-one i))
    where
      x : X
      x = get_or xs i d
