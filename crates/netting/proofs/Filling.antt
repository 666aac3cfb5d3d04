-- A table that is filled in place: what stands in it and what is yet to come are together the whole.
use Prim.Native.Nat.{ℕ, ◌+◌, ◌≤◌, ◌<◌}
use native.Mathlib.Omega.{arith}
use native.Mathlib.Numerals.{add-one}
use mathlib.Core.Path.{◌≡◌, ap, sym, ◌∙◌}
use mathlib.Core.List.{List, [], ◌∷◌, ◌++◌, append_assoc, append-nil}
use lib.ListN.{length, take, set, length-set, length-append}
use lib.Seq.{take-suc-set, length-take-le}

module _ {A : Type 0} where
  -- the first n places of l are filled
  pub record Filling (whole rest : List A) (n : ℕ) (l : List A) : Type 0 where
    pub same : take n l ++ rest ≡ whole
    pub room : n + length rest ≤ length l

  module _ (whole rest : List A) (n : ℕ) (l : List A) where
    pub filling_as : (rest' : List A) → rest ≡ rest' → Filling whole rest n l → Filling whole rest' n l
    filling_as rest' e f = rw (← e) f

    -- there is a place for the next element, which is then filled
    pub next_place : (x : A) → Filling whole (x ∷ rest) n l → n < length l
    next_place x f = omega (arith, f.room)

    pub filling_more : (x : A) → Filling whole (x ∷ rest) n l → Filling whole rest (n + 1) (set l n x)
    filling_more x f =
        record {
          same = rw (add-one, take-suc-set l n x (next_place x f), append_assoc) f.same;
          room = omega (arith, f.room, length-set l n x);
        }

    -- and for some elements that another table of this length has next
    pub filling_run : (xs : List A) → Filling whole (xs ++ rest) n l → (m : ℕ) (k : List A) → length k ≡ length l → m ≤ length k → take m k ≡ take n l ++ xs → Filling whole rest m k
    filling_run xs f m k long held e =
        let room : n + (length xs + length rest) ≤ length l = rw (length-append) at f.room in
        let counted : m ≡ n + length xs = sym (length-take-le m k held) ∙ ap length e ∙ length-append (take n l) xs ∙ ap (λ (i : ℕ). i + length xs) (length-take-le n l (omega arith)) in
        record {
          same = rw (e, append_assoc) f.same;
          room = omega arith;
        }

  pub filled : (whole : List A) (n : ℕ) (l : List A) → Filling whole [] n l → take n l ≡ whole
  filled whole n l f = sym (append-nil (take n l)) ∙ f.same
