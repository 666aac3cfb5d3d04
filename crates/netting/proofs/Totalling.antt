-- The totals of a kind as the pass over the day's trades has them.
use Prim.Native.Nat.{ℕ, zero, suc, ◌+◌, ◌-◌, ◌≤◌, ◌<◌, max}
use native.Mathlib.Nat.{add-zero, max-zero}
use native.Mathlib.Omega.{arith}
use mathlib.Core.Path.{◌≡◌, refl, ap, ap₂, sym, ◌∙◌, subst}
use mathlib.Core.Logic.{◌≢◌}
use mathlib.Core.List.{List, [], ◌∷◌, ◌++◌}
use mathlib.Core.Bool.{Bool, true, false, true≢false, cond, ◌&&◌}
use lib.ListN.{length, get_or, set, length-set, take, replicate, length-replicate, get_or-replicate}
use lib.Seq.{take-suc, take_all, get_or-set_same, get_or-set_other, length-take-le}
use lib.Dec.{eqb}
use borrow.Author.Tests.{eq-eqb, eqb-true}
use Rattle.laws.specs.Lists.{only, All}
use Rattle.laws.specs.Listed.{sum_append}
use Rattle.laws.specs.Alls.{all_at}
use Rattle.laws.specs.Asked.{Said, passed, failed, ask, and_left, and_right, both}
use Rattle.events.specs.declared.Trade.{Trade}
use Rattle.rows.specs.Rows.{no_trade}
use Rattle.plain.specs.declared.Kind.{Kind}
use Rattle.plain.specs.Netting.{kind_number, Key, units, highest_price}
use Rattle.plain.specs.Invariants.{TradeFits, KeyFits}
use Rattle.plain.proofs.Netted.{units_le}
use Rattle.tables.specs.Tables.{Trades, today}
use Rattle.netting.specs.declared.Side.{Side}
use Rattle.netting.specs.declared.Side.TheVariants.{Sale, Purchase}
use Rattle.netting.specs.declared.Total.{Total}
use Rattle.netting.specs.Gathering.{no_total, key_for, place_of, party_of, party_kind_of, key_of, traded_by, total_in, total_of, added, raised, Totalled, Addable, Gatherable, Gathered}
use Rattle.netting.proofs.Today.{length_today, today_at}
use Rattle.netting.proofs.Places.{place_fits, same_key, opposite, sides_apart}

all_take : {A : Type 0} (P : A → Type 0) (n : ℕ) (xs : List A) → All P xs → All P (take n xs)
all_take P zero xs h = tt
all_take P (suc n) [] h = tt
all_take P (suc n) (x ∷ xs) h = (h.0, all_take P n xs h.1)

-- ONE MORE TRADE

module _ (test : Trade → Bool) where
  units_last : (ts : List Trade) (t : Trade) → units test (ts ++ t ∷ []) ≡ units test ts + only (test t) t.quantity
  unfolding units
  units_last ts t = omega (arith, sum_append (λ t. only (test t) t.quantity) ts (t ∷ []))

  highest_last : (ts : List Trade) (t : Trade) → highest_price test (ts ++ t ∷ []) ≡ max (highest_price test ts) (only (test t) t.price)
  unfolding highest_price
  highest_last [] t = omega arith
  highest_last (x ∷ ts) t = omega (arith, highest_last ts t)

module _ (side : Side) (k : Key) (ts : List Trade) (t : Trade) where
  total_more : traded_by side k t ≡ true → total_of side k (ts ++ t ∷ []) ≡ added t (total_of side k ts)
  total_more e = rw (units_last (traded_by side k) ts t, highest_last (traded_by side k) ts t, e)

  total_same : traded_by side k t ≡ false → total_of side k (ts ++ t ∷ []) ≡ total_of side k ts
  total_same e = rw (units_last (traded_by side k) ts t, highest_last (traded_by side k) ts t, e, add-zero, max-zero)

module _ (kind : Kind) where
  pub key_fits : (side : Side) (t : Trade) → TradeFits 32 t → KeyFits 32 (key_of kind side t)
  key_fits Sale t f = record { member = f.seller; security = f.security }
  key_fits Purchase t f = record { member = f.buyer; security = f.security }

-- a trade is of its own key where its side is of the key's kind, and of no other
module _ (kind : Kind) (side : Side) (t : Trade) (member security : ℕ) where
  abbrev its : Key
  its = key_for member kind security

  its_kind : traded_by side its t ≡ true → eqb (party_kind_of side t) (kind_number kind) ≡ true
  its_kind e = and_right (eqb (party_of side t) member) (eqb (party_kind_of side t) (kind_number kind)) (and_left (eqb (party_of side t) member && eqb (party_kind_of side t) (kind_number kind)) (eqb t.security security) e)

  its_place : traded_by side its t ≡ true → place_of side (party_of side t) t.security ≡ place_of side member security
  its_place e =
      let sides = eqb (party_of side t) member && eqb (party_kind_of side t) (kind_number kind) in
      ap₂ (place_of side)
      (eqb-true (party_of side t) member (and_left (eqb (party_of side t) member) (eqb (party_kind_of side t) (kind_number kind)) (and_left sides (eqb t.security security) e)))
      (eqb-true t.security security (and_right sides (eqb t.security security) e))

  its_trade : eqb (party_kind_of side t) (kind_number kind) ≡ true → key_of kind side t ≡ its → traded_by side its t ≡ true
  its_trade n e =
      both (eqb (party_of side t) member && eqb (party_kind_of side t) (kind_number kind)) (eqb t.security security)
      (both (eqb (party_of side t) member) (eqb (party_kind_of side t) (kind_number kind)) (eq-eqb (party_of side t) member (ap (λ (k : Key). k.member) e)) n)
      (eq-eqb t.security security (ap (λ (k : Key). k.security) e))

module _ (kind : Kind) (side : Side) (ts : List Trade) (t : Trade) (l : List Total) (f : TradeFits 32 t) where
  raised_own : length l ≡ 4032 → Totalled kind side ts l → Totalled kind side (ts ++ t ∷ []) (raised kind side t l)
  raised_own long h m s fits = go (ask (eqb (party_kind_of side t) (kind_number kind))) (ask (traded_by side (key_for m kind s) t))
    where
      go : Said (eqb (party_kind_of side t) (kind_number kind)) → Said (traded_by side (key_for m kind s) t) → total_in (raised kind side t l) side (key_for m kind s) ≡ total_of side (key_for m kind s) (ts ++ t ∷ [])
      go (passed n) (passed e) =
          rw (n, its_place kind side t m s e) (get_or-set_same l (place_of side m s) (added t (total_in l side (key_for m kind s))) no_total (omega (arith, long, place_fits kind side m s fits))
          ∙ ap (added t) (h m s fits)
          ∙ sym (total_more side (key_for m kind s) ts t e))
      go (passed n) (failed e) =
          let other : place_of side m s ≢ place_of side (party_of side t) t.security =
          λ p. true≢false (sym (its_trade kind side t m s n (same_key kind side (party_of side t) t.security m s (key_fits kind side t f) fits (sym p))) ∙ e) in
          rw n (get_or-set_other l (place_of side (party_of side t) t.security) (place_of side m s) _ no_total other ∙ h m s fits ∙ sym (total_same side (key_for m kind s) ts t e))
      go (failed n) (passed e) = absurd (true≢false (sym (its_kind kind side t m s e) ∙ n))
      go (failed n) (failed e) = rw n (h m s fits ∙ sym (total_same side (key_for m kind s) ts t e))

  -- on the other side nothing is raised
  raised_opposite : Totalled kind (opposite side) ts l → Totalled kind (opposite side) ts (raised kind side t l)
  raised_opposite h m s fits = go (ask (eqb (party_kind_of side t) (kind_number kind)))
    where
      go : Said (eqb (party_kind_of side t) (kind_number kind)) → total_in (raised kind side t l) (opposite side) (key_for m kind s) ≡ total_of (opposite side) (key_for m kind s) ts
      go (passed n) =
          rw n (get_or-set_other l (place_of side (party_of side t) t.security) (place_of (opposite side) m s) _ no_total (sides_apart side m s (party_of side t) t.security) ∙ h m s fits)
      go (failed n) = rw n (h m s fits)

-- there are as many totals as before
length_raised : (kind : Kind) (side : Side) (t : Trade) (l : List Total) → length (raised kind side t l) ≡ length l
length_raised kind side t l = go (eqb (party_kind_of side t) (kind_number kind))
  where
    go : (b : Bool) → length (cond b (set l (place_of side (party_of side t) t.security) (added t (total_in l side (key_of kind side t)))) l) ≡ length l
    go true = length-set l _ _
    go false = refl

-- THE PASS

-- the totals of a kind of the first trades of today, up to place i of the table
pub record Totalling (kind : Kind) (trades : Trades) (i : ℕ) (xs : List Total) : Type 0 where
  pub low : trades.netted ≤ i
  pub high : i ≤ trades.count
  pub long : length xs ≡ 4032
  pub totals : (side : Side) → Totalled kind side (take (i - trades.netted) (today trades)) xs

module _ (kind : Kind) (trades : Trades) (g : Gatherable trades) where
  pub totalling_start : (xs : List Total) → xs ≡ replicate 4032 no_total → Totalling kind trades trades.netted xs
  unfolding units highest_price
  totalling_start xs none =
      let e : trades.netted - trades.netted ≡ 0 = omega arith in
      record {
        low = omega arith;
        high = g.fit.past;
        long = ap length none ∙ length-replicate {A = Total} 4032 no_total;
        totals = λ side m s f. rw (e, none) (get_or-replicate {A = Total} 4032 (place_of side m s) no_total no_total (place_fits kind side m s f));
      }

  -- the trade that was read at place i is raised on each side
  module _ (i : ℕ) (xs : List Total) (s : Totalling kind trades i xs) (k : i < trades.count) (t : Trade) (read : t ≡ get_or trades.items i no_trade) where
    abbrev passed_trades : List Trade
    passed_trades = take (i - trades.netted) (today trades)

    trade_today : get_or (today trades) (i - trades.netted) no_trade ≡ t
    trade_today = today_at trades g i s.low k ∙ sym read

    fair : TradeFits 32 t
    fair =
        subst (TradeFits 32) trade_today
        (all_at (TradeFits 32) (today trades) (i - trades.netted) no_trade (omega (arith, length_today trades g, s.low)) g.fair)

    -- so far no total exceeds what 512 trades come to
    pub raisable : (side : Side) (ys : List Total) → Totalled kind side passed_trades ys → TradeFits 32 t × Addable (total_in ys side (key_of kind side t)) t
    raisable side ys h = (
      fair,
      record {
        total =
            rw (h (party_of side t) t.security (key_fits kind side t fair))
            (omega (
              arith,
              g.fit.held,
              length-take-le (i - trades.netted) (today trades) (omega (arith, length_today trades g)),
              units_le (traded_by side (key_of kind side t)) 32 passed_trades (all_take (TradeFits 32) (i - trades.netted) (today trades) g.fair),
            ));
        trade = fair.quantity.below;
      },
    )

    module _ (ys : List Total) (sale : ys ≡ raised kind Sale t xs) where
      pub purchases_kept : Totalled kind Purchase passed_trades ys
      purchases_kept = rw sale (raised_opposite kind Sale passed_trades t xs fair (s.totals Purchase))

      pub totalling_more : (zs : List Total) → zs ≡ raised kind Purchase t ys → Totalling kind trades (i + 1) zs
      totalling_more zs purchase =
          let next : i + 1 - trades.netted ≡ suc (i - trades.netted) = omega (arith, s.low) in
          record {
            low = omega (arith, s.low);
            high = omega arith;
            long = ap length purchase ∙ length_raised kind Purchase t ys ∙ many;
            totals = λ side. rw (next, take-suc (today trades) (i - trades.netted) no_trade (omega (arith, length_today trades g, s.low)), trade_today, purchase) (more side);
          }
        where
          many : length ys ≡ 4032
          many = ap length sale ∙ length_raised kind Sale t xs ∙ s.long

          more : (side : Side) → Totalled kind side (passed_trades ++ t ∷ []) (raised kind Purchase t ys)
          more Purchase = raised_own kind Purchase passed_trades t ys fair many purchases_kept
          more Sale =
              raised_opposite kind Purchase (passed_trades ++ t ∷ []) t ys fair
              (rw sale (raised_own kind Sale passed_trades t xs fair s.long (s.totals Sale)))

  pub gathered : (i : ℕ) (xs : List Total) → Totalling kind trades i xs → trades.count ≤ i → Gathered kind trades xs
  gathered i xs s k = record { gathered = λ side. rw (← take_all (i - trades.netted) (today trades) (omega (arith, length_today trades g))) (s.totals side) }
