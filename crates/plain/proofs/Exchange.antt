-- Over offers that stand by rising price, taking from the first on is cheapest: one exchange, for any list, any quantity and any way.
use Prim.Native.Nat.{ℕ, ◌+◌, ◌-◌, ◌*◌, ◌≤◌, min}
use native.Mathlib.Nat.{mul-add, mul_comm, mul-le-mul_right, mul-zero}
use native.Mathlib.Omega.{arith}
use mathlib.Core.Path.{◌≡◌, refl, ap}
use mathlib.Core.List.{List, [], ◌∷◌, map}
use Rattle.laws.specs.Lists.{All, sum}
use Rattle.events.specs.declared.Offer.{Offer}
use Rattle.plain.specs.Cover.{Taking}

abbrev pub offers_of : List Taking → List Offer
offers_of ts = map (λ t. t.offer) ts

-- what takings take, and what that costs
abbrev pub taken_in : List Taking → ℕ
taken_in ts = sum (λ t. t.quantity) ts

abbrev pub cost_in : List Taking → ℕ
cost_in ts = sum (λ t. t.quantity * t.offer.price) ts

-- each is at most its offer's quantity
abbrev pub Fit : List Taking → Type 0
Fit ts = All (λ t. t.quantity ≤ t.offer.quantity) ts

-- no offer is dearer than a later one
abbrev pub ByPrice : List Offer → Type 0
ByPrice [] = Unit {0}
ByPrice (o ∷ os) = All (λ x. o.price ≤ x.price) os × ByPrice os

-- each offer taken whole, until the quantity is met
unfoldable pub first_on : ℕ → List Offer → List Taking
first_on left [] = []
first_on left (o ∷ os) =
    record { offer = o; quantity = min o.quantity left } ∷ first_on (left - min o.quantity left) os

pub first_offers : (left : ℕ) (os : List Offer) → offers_of (first_on left os) ≡ os
unfolding first_on
first_offers left [] = refl
first_offers left (o ∷ os) = ap (λ (l : List Offer). o ∷ l) (first_offers (left - min o.quantity left) os)

pub first_fits : (left : ℕ) (os : List Offer) → Fit (first_on left os)
unfolding first_on
first_fits left [] = tt
first_fits left (o ∷ os) = (omega arith, first_fits (left - min o.quantity left) os)

pub first_total : (left : ℕ) (os : List Offer) → taken_in (first_on left os) ≡ min left (sum (λ o. o.quantity) os)
unfolding first_on
first_total left [] = omega arith
first_total left (o ∷ os) = omega (arith, first_total (left - min o.quantity left) os)

-- q units at a price and d at one that is no higher, against as many at that price
swapped : (q d x e low price : ℕ) → low ≤ price → q + d ≡ x + e → q * price + low * d ≤ x * price + price * e
swapped q d x e low price l s =
    omega (
      arith,
      mul-le-mul_right d l,
      mul_comm q price,
      mul_comm x price,
      mul-add price q d,
      mul-add price x e,
      ap (λ (n : ℕ). price * n) s,
    )

-- Takings that fit and take d units more cost at least d times as much more as a price that no offer is below.
pub exchange : (low left d : ℕ) (ts : List Taking) → All (λ o. low ≤ o.price) (offers_of ts) → ByPrice (offers_of ts) → Fit ts
    → taken_in ts ≡ taken_in (first_on left (offers_of ts)) + d → cost_in (first_on left (offers_of ts)) + low * d ≤ cost_in ts
unfolding first_on
exchange low left d [] h r f e =
    let none : d ≡ 0 = omega arith in
    omega (arith, ap (λ (n : ℕ). low * n) none, mul-zero low)
exchange low left d (t ∷ ts) h r f e =
    let rest : ℕ = left - min t.offer.quantity left in
    let os : List Offer = offers_of ts in
    let more : ℕ = taken_in ts - taken_in (first_on rest os) in
    let later : taken_in ts ≡ taken_in (first_on rest os) + more = omega (arith, first_total rest os, f.0) in
    omega (
      arith,
      exchange t.offer.price rest more ts r.0 r.1 f.1 later,
      swapped (min t.offer.quantity left) d t.quantity more low t.offer.price h.0 (omega arith),
    )
