-- The places of the totals of a kind: each is one of 4,032, and no other key of the kind and no other side has it.
use Prim.Native.Nat.{ℕ, ◌<◌}
use native.Mathlib.Omega.{arith}
use mathlib.Core.Path.{◌≡◌, ap, ◌∙◌}
use mathlib.Core.Logic.{◌≢◌}
use Rattle.plain.specs.declared.Kind.{Kind}
use Rattle.plain.specs.Invariants.{KeyFits}
use Rattle.netting.specs.declared.Side.{Side}
use Rattle.netting.specs.declared.Side.TheVariants.{Sale, Purchase}
use Rattle.netting.specs.Gathering.{key_for, place_of}

module _ (kind : Kind) where
  pub place_fits : (side : Side) (member security : ℕ) → KeyFits 32 (key_for member kind security) → place_of side member security < 4032
  unfolding place_of
  place_fits Sale member security f = omega (arith, f.member.above, f.member.below, f.security.above, f.security.below)
  place_fits Purchase member security f = omega (arith, f.member.above, f.member.below, f.security.above, f.security.below)

  module _ (side : Side) (m s m' s' : ℕ) (f : KeyFits 32 (key_for m kind s)) (g : KeyFits 32 (key_for m' kind s')) (e : place_of side m s ≡ place_of side m' s') where
    same_member : m ≡ m'
    unfolding place_of
    same_member = omega (arith, f.member.above, g.member.above, f.security.above, f.security.below, g.security.above, g.security.below, e)

    same_security : s ≡ s'
    unfolding place_of
    same_security = omega (arith, f.security.above, g.security.above, e, same_member)

    pub same_key : key_for m kind s ≡ key_for m' kind s'
    same_key = ap (λ (n : ℕ). key_for n kind s) same_member ∙ ap (λ (n : ℕ). key_for m' kind n) same_security

abbrev pub opposite : Side → Side
opposite Sale = Purchase
opposite Purchase = Sale

pub sides_apart : (side : Side) (m s m' s' : ℕ) → place_of (opposite side) m s ≢ place_of side m' s'
unfolding place_of
sides_apart Sale m s m' s' e = omega (arith, e)
sides_apart Purchase m s m' s' e = omega (arith, e)
