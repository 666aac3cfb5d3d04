-- An array whose elements are made by calls, one at each place in turn.
use Prim.Native.Nat.{ℕ, zero, suc, ◌+◌, ◌≤◌, ◌<◌}
use native.Mathlib.Omega.{arith}
use mathlib.Core.Path.{◌≡◌, ap, sym, subst, ◌∙◌}
use mathlib.Core.List.{List}
use lib.ListN.{length, get_or}
use lib.Seq.{ext_get_or}
use lib.Dec.{eqb}
use borrow.Author.Tests.{eqb-true, eqb-false}
use denote.Param.Members.{Mut}
use Rattle.std.specs.Fn.{Called}
use Rattle.std.specs.Array.{IsFromFnResult, IsFromFnResultFrom}
use Rattle.laws.specs.Asked.{Said, passed, failed, ask}

-- each call leaves the closure as it was, and makes the element of a list at its place
abbrev pub MakesEach : {F B : Type 0} → Mut F (ℕ × Unit {0}) B → F → List B → B → Type 0
MakesEach {F} {B} g f all d = (i : ℕ) (y : B) (q : F) → Called g f (i, tt) y q → (q ≡ f) × (y ≡ get_or all i d)

module _ {F B : Type 0} (g : Mut F (ℕ × Unit {0}) B) (f : F) (all ys : List B) (d : B) (each : MakesEach g f all d) where
  made_from : (i n k : ℕ) → IsFromFnResultFrom g f ys i n → i ≤ k → k < i + n → get_or ys k d ≡ get_or all k d
  made_from i zero k r l u = absurd (omega (arith, l, u))
  made_from i (suc n) k (q, y, e, c, rest) l u =
      let later : IsFromFnResultFrom g f ys (i + 1) n = subst (λ x. IsFromFnResultFrom g x ys (i + 1) n) (each i y q c).0 rest in
      go (λ h. made_from (i + 1) n k later h (omega (arith, u))) (ask (eqb k i))
    where
      go : (i + 1 ≤ k → get_or ys k d ≡ get_or all k d) → Said (eqb k i) → get_or ys k d ≡ get_or all k d
      go above (passed p) =
          let same : k ≡ i = eqb-true k i p in
          ap (λ (j : ℕ). get_or ys j d) same ∙ e.1 d ∙ (each i y q c).1 ∙ ap (λ (j : ℕ). get_or all j d) (sym same)
      go above (failed p) =
          let ne = eqb-false k i p in
          above (omega (arith, ne, l))

-- so the array is the list
pub made_whole : {F B : Type 0} {g : Mut F (ℕ × Unit {0}) B} {f : F} {ys : List B} {n : ℕ} (all : List B) (d : B) → IsFromFnResult g f ys n → length all ≡ n → MakesEach g f all d → ys ≡ all
made_whole {g = g} {f = f} {ys = ys} {n = n} all d r size each =
    ext_get_or d ys all (r.long ∙ sym size) (λ k h. made_from g f all ys d each 0 n k r.each (omega arith) (omega (arith, r.long, h)))
