-- The position that a key's totals make, and the positions of a day's keys.
use Prim.Native.Nat.{ℕ, ◌+◌, ◌-◌, ◌≤◌, ◌<◌}
use native.Mathlib.Nat.{zero-add}
use native.Mathlib.Omega.{arith}
use mathlib.Core.Path.{◌≡◌, refl, ap, ap₂, sym, ◌∙◌}
use mathlib.Core.List.{List, [], ◌∷◌, ◌++◌, append-nil}
use Rattle.std.specs.Prelude.{None, Some}
use mathlib.Core.Bool.{Bool, true, false, not, ◌&&◌}
use lib.ListN.{length}
use lib.Dec.{eqb}
use borrow.Author.Tests.{lt-ltb, le-ltb, eqb-true, not-false}
use Rattle.laws.specs.Lists.{each, range, some, All}
use Rattle.laws.specs.Listed.{each_append}
use Rattle.laws.specs.Alls.{all_range}
use Rattle.laws.specs.Asked.{Within, or_left, or_right}
use Rattle.events.specs.declared.Trade.{Trade}
use Rattle.plain.specs.declared.Position.{Position}
use Rattle.plain.specs.declared.Kind.{Kind}
use Rattle.plain.specs.declared.Kind.TheVariants.{Own, Client}
use Rattle.plain.specs.Netting.{Key, kind_keys, member_keys, keys, units, made, net_of, net, netted}
use Rattle.plain.specs.Invariants.{KeyFits}
use Rattle.plain.proofs.Netted.{netted_count, keys_once}
use Rattle.tables.specs.Tables.{Trades, today}
use Rattle.netting.specs.declared.Side.{Side}
use Rattle.netting.specs.declared.Side.TheVariants.{Sale, Purchase}
use Rattle.netting.specs.declared.Total.{Total}
use Rattle.netting.specs.Gathering.{key_for, party_of, party_kind_of, traded_by, total_of, Gathered}
use Rattle.netting.specs.Members.{net_from, net_in, kind_positions, member_positions}
use Rattle.netting.specs.Netting.{is_client}

module _ (day : ℕ) (k : Key) (bought sold : Total) where
  pub net_short : bought.units < sold.units → net_from day k bought sold ≡ made day k true (sold.units - bought.units) sold.highest ∷ []
  unfolding net_of
  net_short h = rw (lt-ltb bought.units sold.units h, le-ltb sold.units bought.units (omega arith))

  pub net_long : sold.units < bought.units → net_from day k bought sold ≡ made day k false (bought.units - sold.units) bought.highest ∷ []
  unfolding net_of
  net_long h = rw (le-ltb bought.units sold.units (omega arith), lt-ltb sold.units bought.units h)

  pub net_none : bought.units ≡ sold.units → net_from day k bought sold ≡ []
  unfolding net_of
  net_none e = rw (le-ltb bought.units sold.units (omega arith), le-ltb sold.units bought.units (omega arith))

net_of_lem : (day : ℕ) (trades : List Trade) (k : Key) → net day trades k ≡ net_from day k (total_of Purchase k trades) (total_of Sale k trades)
unfolding net net_of
net_of_lem day trades k = refl

-- a trade whose two sides are own business is of no client's key
not_client : (side : Side) (member security : ℕ) (t : Trade) → is_client t ≡ false → traded_by side (key_for member Client security) t ≡ false
not_client side member security t e = apart (eqb (party_of side t) member) (eqb (party_kind_of side t) 1) (eqb t.security security) (own side)
  where
    apart : (a b c : Bool) → b ≡ false → a && b && c ≡ false
    apart true b c e = rw e
    apart false b c e = refl

    own : (side : Side) → eqb (party_kind_of side t) 1 ≡ false
    own Sale =
        let zero : t.sellerkind ≡ 0 = eqb-true t.sellerkind 0 (not-false (eqb t.sellerkind 0) (or_left (not (eqb t.sellerkind 0)) (not (eqb t.buyerkind 0)) e)) in
        rw zero
    own Purchase =
        let zero : t.buyerkind ≡ 0 = eqb-true t.buyerkind 0 (not-false (eqb t.buyerkind 0) (or_right (not (eqb t.sellerkind 0)) (not (eqb t.buyerkind 0)) e)) in
        rw zero

no_units : (side : Side) (member security : ℕ) (trades : List Trade) → some is_client trades ≡ false → units (traded_by side (key_for member Client security)) trades ≡ 0
unfolding units
no_units side member security [] e = refl
no_units side member security (t ∷ trades) e =
    simp (not_client side member security t (or_left (is_client t) (some is_client trades) e), zero-add)
    (no_units side member security trades (or_right (is_client t) (some is_client trades) e))

each_same : {A B : Type 0} (P : B → Type 0) (f g : B → List A) (xs : List B) → ((x : B) → P x → f x ≡ g x) → All P xs → each f xs ≡ each g xs
each_same P f g [] h all = refl
each_same P f g (x ∷ xs) h all = cc (h x all.0, each_same P f g xs h all.1)

each_each : {A B C : Type 0} (g : B → List A) (f : C → List B) (xs : List C) → each g (each f xs) ≡ each (λ x. each g (f x)) xs
each_each g f [] = refl
each_each g f (x ∷ xs) = each_append g (f x) (each f xs) ∙ ap (λ (l : List _). each g (f x) ++ l) (each_each g f xs)

-- THE POSITIONS OF A DAY

module _ (day : ℕ) (trades : Trades) (securities : ℕ) (few : securities ≤ 32) where
  -- the gathered totals of a kind make the positions of a member's business of that kind
  kind_netted : (kind : Kind) (totals : List Total) (member : ℕ) → Gathered kind trades totals → Within 1 63 member
      → netted day (today trades) (kind_keys securities member kind) ≡ kind_positions day totals securities member kind
  unfolding netted
  kind_netted kind totals member g h = over (range 1 securities) (all_range 1 securities)
    where
      here : (s : ℕ) → (1 ≤ s) × (s < 1 + securities) → net day (today trades) (key_for member kind s) ≡ net_in day totals (key_for member kind s)
      here s k =
          let fits : KeyFits 32 (key_for member kind s) = record { member = h; security = record { above = k.0; below = omega (arith, k.1, few) } } in
          rw (g.gathered Purchase member s fits, g.gathered Sale member s fits) (net_of_lem day (today trades) (key_for member kind s))

      over : (ss : List ℕ) → All (λ s. (1 ≤ s) × (s < 1 + securities)) ss
          → each (net day (today trades)) (each (λ s. key_for member kind s ∷ []) ss) ≡ each (λ s. net_in day totals (key_for member kind s)) ss
      over [] a = refl
      over (s ∷ ss) a = cc (here s a.0, over ss a.1)

  -- own before client
  member_netted : (member : ℕ) → netted day (today trades) (member_keys securities member) ≡ netted day (today trades) (kind_keys securities member Own) ++ netted day (today trades) (kind_keys securities member Client)
  unfolding netted
  member_netted member =
      let own = kind_keys securities member Own in
      let client = kind_keys securities member Client in
      each_append (net day (today trades)) own (client ++ [])
      ∙ ap (λ (ks : List Key). each (net day (today trades)) own ++ each (net day (today trades)) ks) (append-nil client)

  -- what the members' positions are, they are for all members
  day_netted : (f : ℕ → List Position) → ((member : ℕ) → Within 1 63 member → netted day (today trades) (member_keys securities member) ≡ f member)
      → netted day (today trades) (keys securities) ≡ each f (range 1 63)
  unfolding netted keys
  day_netted f h =
      each_each (net day (today trades)) (member_keys securities) (range 1 63)
      ∙ each_same (λ m. (1 ≤ m) × (m < 64)) (λ m. each (net day (today trades)) (member_keys securities m)) f (range 1 63)
      (λ m k. h m (record { above = k.0; below = omega (arith, k.1) })) (all_range 1 63)

  pub both_netted : (own client : List Total) → Gathered Own trades own → Gathered Client trades client → netted day (today trades) (keys securities) ≡ each (member_positions day own (Some client) securities) (range 1 63)
  both_netted own client g c =
      day_netted (member_positions day own (Some client) securities)
      (λ m h. member_netted m ∙ ap₂ (λ (x y : List Position). x ++ y) (kind_netted Own own m g h) (kind_netted Client client m c h))

  -- client business of a day that has none makes no position
  none_client : (member : ℕ) → some is_client (today trades) ≡ false → netted day (today trades) (kind_keys securities member Client) ≡ []
  unfolding netted
  none_client member e = over (range 1 securities)
    where
      over : (ss : List ℕ) → each (net day (today trades)) (each (λ s. key_for member Client s ∷ []) ss) ≡ []
      over [] = refl
      over (s ∷ ss) =
          let k = key_for member Client s in
          let none = net_of_lem day (today trades) k ∙ net_none day k (total_of Purchase k (today trades)) (total_of Sale k (today trades)) (no_units Purchase member s (today trades) e ∙ sym (no_units Sale member s (today trades) e)) in
          ap (λ (l : List Position). l ++ each (net day (today trades)) (each (λ s. key_for member Client s ∷ []) ss)) none ∙ over ss

  pub own_netted : (own : List Total) → Gathered Own trades own → some is_client (today trades) ≡ false → netted day (today trades) (keys securities) ≡ each (member_positions day own None securities) (range 1 63)
  own_netted own g e =
      day_netted (member_positions day own None securities)
      (λ m h. member_netted m ∙ ap₂ (λ (x y : List Position). x ++ y) (kind_netted Own own m g h) (none_client m e))

-- a day without trades makes none
pub netted_nothing : (day : ℕ) (trades : List Trade) (count : ℕ) → length trades ≡ 0 → netted day trades (keys count) ≡ []
netted_nothing day trades count h =
    none (netted day trades (keys count)) (omega (arith, netted_count day trades (keys count) (keys_once count)))
  where
    none : (ps : List Position) → length ps ≡ 0 → ps ≡ []
    none [] e = refl
    none (p ∷ ps) e = absurd (omega arith)
