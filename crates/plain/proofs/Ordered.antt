-- Offers in the order in which they are taken: the offers that arrived, by rising price.
use Prim.Native.Nat.{◌≤◌}
use native.Mathlib.Omega.{arith}
use mathlib.Core.Path.{refl}
use mathlib.Core.List.Permᴰ
use mathlib.Core.List.{List, [], ◌∷◌, ◌++◌}
use borrow.Author.Tests.{leb-true, leb-false}
use Rattle.laws.specs.Asked.{decided}
use Rattle.laws.specs.Alls.{all_of}
use Rattle.laws.specs.Reordered.{Reordered, reordered_all}
use Rattle.events.specs.declared.Offer.{Offer}
use Rattle.plain.specs.Auction.{stays_before, insert, by_price}
use Rattle.plain.proofs.Exchange.{ByPrice}

insert_reordered : (o : Offer) (os : List Offer) → Reordered (insert o os) (o ∷ os)
unfolding insert
insert_reordered o [] = Permᴰ.refl (o ∷ [])
insert_reordered o (x ∷ xs) =
    decided (λ l. Reordered l (o ∷ x ∷ xs)) (stays_before x o) (x ∷ insert o xs) (o ∷ x ∷ xs)
    (λ e. Permᴰ.trans (Permᴰ.cons refl (insert_reordered o xs)) (Permᴰ.swap refl refl))
    (λ e. Permᴰ.refl (o ∷ x ∷ xs))

pub ordered_reordered : (os offers : List Offer) → Reordered (by_price os offers) (os ++ offers)
unfolding by_price
ordered_reordered os [] = Permᴰ.symm (Permᴰ.append-nil os)
ordered_reordered os (o ∷ offers) =
    Permᴰ.trans (ordered_reordered (insert o os) offers)
    (Permᴰ.trans (Permᴰ.append_right offers (insert_reordered o os)) (Permᴰ.symm (Permᴰ.middle o os offers)))

insert_by_price : (o : Offer) (os : List Offer) → ByPrice os → ByPrice (insert o os)
unfolding insert
insert_by_price o [] r = (tt, tt)
insert_by_price o (x ∷ xs) r =
    decided ByPrice (stays_before x o) (x ∷ insert o xs) (o ∷ x ∷ xs)
    (λ e.
    let l : x.price ≤ o.price = leb-true x.price o.price e in
    (reordered_all (λ y. x.price ≤ y.price) (Permᴰ.symm (insert_reordered o xs)) (l, r.0), insert_by_price o xs r.1))
    (λ e.
    let l : o.price ≤ x.price = omega (arith, leb-false x.price o.price e) in
    ((l, all_of (λ y. x.price ≤ y.price) (λ y. o.price ≤ y.price) xs (λ y k. omega arith) r.0), r))

pub ordered_by_price : (os offers : List Offer) → ByPrice os → ByPrice (by_price os offers)
unfolding by_price
ordered_by_price os [] r = r
ordered_by_price os (o ∷ offers) r = ordered_by_price (insert o os) offers (insert_by_price o os r)
