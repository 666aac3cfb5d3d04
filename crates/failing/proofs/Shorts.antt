-- One position: on which days it counts as a late open short.
use Prim.Native.Nat.{ℕ, ◌≤◌, ◌<◌}
use native.Mathlib.Omega.{arith}
use mathlib.Core.Path.{◌≡◌, refl, sym, ◌∙◌}
use mathlib.Core.Bool.{Bool, true, false, ◌&&◌, true≢false}
use lib.Dec.{eqb, ltb}
use borrow.Author.Tests.{lt-ltb, le-ltb}
use Rattle.laws.specs.Lists.{only}
use Rattle.plain.specs.declared.Position.{Position}
use Rattle.failing.specs.Counts.{late_short}

pub is_late : (day s m : ℕ) (p : Position) → p.short ≡ true → 0 < p.unsettled → p.settlement.0 < day → late_short day s m p ≡ only (eqb p.security s && eqb p.member m) 1
is_late day s m p short some l =
    rw (short, lt-ltb 0 p.unsettled some, lt-ltb p.settlement.0 day l) (go (eqb p.security s))
  where
    go : (b : Bool) → only ((true && b && true && true) && eqb p.member m) 1 ≡ only (b && eqb p.member m) 1
    go true = refl
    go false = refl

pub not_open : (day s m : ℕ) (p : Position) → p.short && ltb 0 p.unsettled ≡ false → late_short day s m p ≡ 0
not_open day s m p e = go p.short (eqb p.security s) (ltb 0 p.unsettled) e
  where
    go : (short security left : Bool) → short && left ≡ false → only ((short && security && left && ltb p.settlement.0 day) && eqb p.member m) 1 ≡ 0
    go false security left e = refl
    go true false left e = refl
    go true true false e = refl
    go true true true e = absurd (true≢false e)

pub not_late : (day s m : ℕ) (p : Position) → day ≤ p.settlement.0 → late_short day s m p ≡ 0
not_late day s m p h = rw (le-ltb p.settlement.0 day h) (go p.short (eqb p.security s) (ltb 0 p.unsettled))
  where
    go : (short security left : Bool) → only ((short && security && left && false) && eqb p.member m) 1 ≡ 0
    go true true true = refl
    go true true false = refl
    go true false left = refl
    go false security left = refl

pub stays_late : (day later s m : ℕ) (p : Position) → p.settlement.0 < day → day ≤ later → late_short later s m p ≡ late_short day s m p
stays_late day later s m p l h =
    let same : ltb p.settlement.0 later ≡ ltb p.settlement.0 day = lt-ltb p.settlement.0 later (omega arith) ∙ sym (lt-ltb p.settlement.0 day l) in
    rw same
