-- Document 02, Slip 6, for any offers and any quantity: what an award takes of them is the cheapest cover. And what follows of such awards.
use Prim.Native.Nat.{ℕ, zero, suc, ◌+◌, ◌-◌, ◌*◌, ◌≤◌, ◌<◌, min}
use native.Mathlib.Nat.{zero-mul}
use native.Mathlib.Omega.{arith}
use mathlib.Core.Path.{◌≡◌, refl, ap, sym, ◌∙◌}
use mathlib.Core.List.Permᴰ
use mathlib.Core.List.{List, [], ◌∷◌, map, zip_with}
use mathlib.Core.Bool.{Bool, true, false}
use lib.ListN.{length, length-map}
use lib.Dec.{ltb}
use borrow.Author.Tests.{lt-ltb, ltb-true}
use Rattle.laws.specs.Lists.{All, only, keep, filter, sum}
use Rattle.laws.specs.Sums.{sum_keep, sum_map, sum_le_all}
use Rattle.laws.specs.Listed.{filter_length}
use Rattle.laws.specs.Alls.{all_any, all_both, all_filter, all_map}
use Rattle.laws.specs.Integers.{total}
use Rattle.laws.specs.Reordered.{Reordered, reordered_sum, reordered_length, reordered_all, reordered_filter, Carried, carried}
use Rattle.events.specs.declared.Offer.{Offer}
use Rattle.plain.specs.declared.Award.{Award}
use Rattle.plain.specs.Auction.{by_price, award_for, awarded}
use Rattle.plain.specs.Cover.{Taking, takings, Way, cost, awards_by, units_of, cost_of, Cheapest}
use Rattle.plain.proofs.Exchange.{offers_of, taken_in, cost_in, Fit, first_on, first_offers, first_fits, first_total, exchange}
use Rattle.plain.proofs.Ordered.{ordered_reordered, ordered_by_price}

-- TAKINGS AND AWARDS

map_keep : {A B : Type 0} (f : A → B) (t : Bool) (x : A) (xs : List A) → map f (keep t x xs) ≡ keep t (f x) (map f xs)
map_keep f true x xs = refl
map_keep f false x xs = refl

abbrev award_on : Taking → Award
award_on t = award_for t.offer t.quantity

awards_next : (t : Taking) (ts : List Taking) → awards_by (t ∷ ts) ≡ keep (ltb 0 t.quantity) (award_on t) (awards_by ts)
unfolding awards_by
awards_next t ts = map_keep award_on (ltb 0 t.quantity) t (filter (λ t. ltb 0 t.quantity) ts)

-- what an award takes are the takings from the first offer on
awarded_first : (left : ℕ) (os : List Offer) → awarded left os ≡ awards_by (first_on left os)
unfolding awarded awards_by first_on
awarded_first left [] = refl
awarded_first left (o ∷ os) =
    let q = min o.quantity left in
    ap (λ (l : List Award). keep (ltb 0 q) (award_for o q) l) (awarded_first (left - q) os)
    ∙ sym (awards_next (record { offer = o; quantity = q }) (first_on (left - q) os))

-- a taking of nothing makes no award, and counts nothing
only_some : (q n : ℕ) → (q ≡ 0 → n ≡ 0) → only (ltb 0 q) n ≡ n
only_some zero n h = sym (h refl)
only_some (suc q) n h = rw (lt-ltb 0 (suc q) (omega arith))

awards_sum : (f : Award → ℕ) → ((a : Award) → a.quantity ≡ 0 → f a ≡ 0) → (ts : List Taking) → sum f (awards_by ts) ≡ sum (λ t. f (award_on t)) ts
awards_sum f h [] = unfold awards_by in refl
awards_sum f h (t ∷ ts) =
    omega (
      arith,
      ap (sum f) (awards_next t ts),
      sum_keep f (ltb 0 t.quantity) (award_on t) (awards_by ts),
      only_some t.quantity (f (award_on t)) (h (award_on t)),
      awards_sum f h ts,
    )

pub awards_units : (ts : List Taking) → units_of (awards_by ts) ≡ taken_in ts
awards_units ts = awards_sum (λ a. a.quantity) (λ a e. e) ts

pub awards_cost : (ts : List Taking) → cost_of (awards_by ts) ≡ cost_in ts
awards_cost ts = awards_sum (λ a. a.quantity * a.price) (λ a e. ap (λ (q : ℕ). q * a.price) e ∙ zero-mul a.price) ts

awards_reordered : {ts us : List Taking} → Reordered ts us → Reordered (awards_by ts) (awards_by us)
unfolding awards_by
awards_reordered d = Permᴰ.map award_on (reordered_filter (λ t. ltb 0 t.quantity) d)

-- WAYS AND TAKINGS

takings_offers : (offers : List Offer) (way : List ℕ) → length way ≡ length offers → offers_of (takings offers way) ≡ offers
unfolding zip_with
takings_offers [] way e = refl
takings_offers (o ∷ os) [] e = absurd (omega arith)
takings_offers (o ∷ os) (q ∷ qs) e = ap (λ (l : List Offer). o ∷ l) (takings_offers os qs (omega arith))

pub takings_total : (offers : List Offer) (way : List ℕ) → length way ≡ length offers → taken_in (takings offers way) ≡ total way
unfolding zip_with
takings_total [] [] e = refl
takings_total [] (q ∷ qs) e = absurd (omega arith)
takings_total (o ∷ os) [] e = absurd (omega arith)
takings_total (o ∷ os) (q ∷ qs) e = omega (arith, takings_total os qs (omega arith))

-- the quantities of takings
abbrev quantities : List Taking → List ℕ
quantities ts = map (λ t. t.quantity) ts

takings_again : (ts : List Taking) → takings (offers_of ts) (quantities ts) ≡ ts
unfolding zip_with
takings_again [] = refl
takings_again (t ∷ ts) = ap (λ (l : List Taking). t ∷ l) (takings_again ts)

takings_of : (offers : List Offer) (ts : List Taking) → offers_of ts ≡ offers → takings offers (quantities ts) ≡ ts
takings_of offers ts e = rw (← e) (takings_again ts)

quantities_many : (ts : List Taking) → length (quantities ts) ≡ length (offers_of ts)
quantities_many [] = refl
quantities_many (t ∷ ts) = ap suc (quantities_many ts)

-- what the offers of takings hold
held : (ts : List Taking) → sum (λ o. o.quantity) (offers_of ts) ≡ sum (λ t. t.offer.quantity) ts
held ts = sum_map (λ o. o.quantity) (λ t. t.offer) ts

-- ANY OFFERS, ANY QUANTITY

module _ (left : ℕ) (offers : List Offer) where
  -- the offers in order, and what is taken of them
  abbrev in_order : List Offer
  in_order = by_price [] offers

  abbrev took : List Taking
  took = first_on left in_order

  reordered : Reordered in_order offers
  reordered = ordered_reordered [] offers

  took_total : taken_in took ≡ min left (sum (λ o. o.quantity) offers)
  took_total = first_total left in_order ∙ ap (λ (n : ℕ). min left n) (reordered_sum (λ o. o.quantity) reordered)

  -- no way takes more than the offers hold
  way_most : (way : List ℕ) → Way offers way → total way ≤ sum (λ o. o.quantity) offers
  way_most way w =
      let ts = takings offers way in
      omega (
        arith,
        takings_total offers way w.one_each,
        sum_le_all (λ t. t.quantity) (λ t. t.offer.quantity) ts w.fits,
        held ts,
        ap (sum (λ o. o.quantity)) (takings_offers offers way w.one_each),
      )

  -- a way that takes as much costs at least as much: put in the order of the offers
  way_dearer : (way : List ℕ) → Way offers way → total way ≡ taken_in took → cost_in took ≤ cost offers way
  unfolding cost
  way_dearer way w e =
      let ts = takings offers way in
      let c = carried (λ t. t.offer) (Permᴰ.symm reordered) ts (takings_offers offers way w.one_each) in
      let us = c.list in
      let fit : Fit us = reordered_all (λ t. t.quantity ≤ t.offer.quantity) c.same w.fits in
      let low : All (λ o. 0 ≤ o.price) (offers_of us) = all_any (λ o. 0 ≤ o.price) (offers_of us) (λ o. omega arith) in
      let much : taken_in us ≡ taken_in took + 0 =
      omega (arith, reordered_sum (λ t. t.quantity) c.same, takings_total offers way w.one_each) in
      let k = exchange 0 left 0 us low (rw c.made (ordered_by_price [] offers tt)) fit (rw c.made much) in
      omega (arith, rw c.made at k, reordered_sum (λ t. t.quantity * t.offer.price) c.same)

  -- the takings as the offers arrived
  as_arrived : Carried (λ t. t.offer) took offers
  as_arrived = carried (λ t. t.offer) reordered took (first_offers left in_order)

  abbrev way' : List ℕ
  way' = quantities as_arrived.list

  same_takings : takings offers way' ≡ as_arrived.list
  same_takings = takings_of offers as_arrived.list as_arrived.made

  pub cover : Cheapest left offers (awarded left in_order)
  unfolding cost
  cover =
      rw (awarded_first left in_order)
      (record {
        way = way';
        is_way = is_way;
        made = rw same_takings (awards_reordered as_arrived.same);
        fits = omega (arith, awards_units took, took_total);
        same_units = awards_units took ∙ reordered_sum (λ t. t.quantity) as_arrived.same ∙ ap taken_in (sym same_takings) ∙ takings_total offers way' is_way.one_each;
        same_cost = awards_cost took ∙ reordered_sum (λ t. t.quantity * t.offer.price) as_arrived.same ∙ ap cost_in (sym same_takings);
        cheapest = λ other w e. omega (arith, awards_cost took, way_dearer other w (e ∙ awards_units took));
        most = λ other w l. omega (arith, awards_units took, took_total, way_most other w);
      })
    where
      is_way : Way offers way'
      is_way =
          record {
            one_each = quantities_many as_arrived.list ∙ ap length as_arrived.made;
            fits = rw same_takings (reordered_all (λ t. t.quantity ≤ t.offer.quantity) as_arrived.same (first_fits left in_order));
          }

-- WHAT FOLLOWS OF SUCH AWARDS

takings_all : (P : Offer → Type 0) (offers : List Offer) (way : List ℕ) → All P offers → All (λ t. P t.offer) (takings offers way)
unfolding zip_with
takings_all P [] way h = tt
takings_all P (o ∷ os) [] h = tt
takings_all P (o ∷ os) (q ∷ qs) h = (h.0, takings_all P os qs h.1)

takings_few : (offers : List Offer) (way : List ℕ) → length (takings offers way) ≤ length offers
unfolding zip_with
takings_few [] way = omega arith
takings_few (o ∷ os) [] = omega arith
takings_few (o ∷ os) (q ∷ qs) = omega (arith, takings_few os qs)

-- the awards of a way: what holds of the award of an offer of which something is taken, and not too much
pub way_all : (P : Award → Type 0) (Q : Offer → Type 0) → ((o : Offer) (q : ℕ) → 0 < q → q ≤ o.quantity → Q o → P (award_for o q))
    → (offers : List Offer) (way : List ℕ) → Way offers way → All Q offers → All P (awards_by (takings offers way))
unfolding awards_by
way_all P Q f offers way w h =
    all_map P award_on Right (filter (λ t. ltb 0 t.quantity) ts) (λ t k. f t.offer t.quantity k.0 k.1.0 k.1.1)
    (all_filter Fits Right (λ t. ltb 0 t.quantity) ts (λ t e k. (ltb-true 0 t.quantity e, k)) (all_both (λ t. t.quantity ≤ t.offer.quantity) (λ t. Q t.offer) ts w.fits (takings_all Q offers way h)))
  where
    ts : List Taking
    ts = takings offers way

    Fits : Taking → Type 0
    Fits t = (t.quantity ≤ t.offer.quantity) × Q t.offer

    Right : Taking → Type 0
    Right t = (0 < t.quantity) × Fits t

module _ {left : ℕ} {offers : List Offer} {awards : List Award} (k : Cheapest left offers awards) where
  pub awards_all : (P : Award → Type 0) (Q : Offer → Type 0) → ((o : Offer) (q : ℕ) → 0 < q → q ≤ o.quantity → Q o → P (award_for o q)) → All Q offers → All P awards
  awards_all P Q f h = reordered_all P (Permᴰ.symm k.made) (way_all P Q f offers k.way k.is_way h)

  pub awards_few : length awards ≤ length offers
  unfolding awards_by
  awards_few =
      let ts = takings offers k.way in
      omega (
        arith,
        reordered_length k.made,
        length-map (filter (λ t. ltb 0 t.quantity) ts) award_on,
        filter_length (λ t. ltb 0 t.quantity) ts,
        takings_few offers k.way,
      )
