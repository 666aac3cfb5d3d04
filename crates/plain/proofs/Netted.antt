-- Document 01, 'Trades and netting', and document 02, Slip 5: what holds of the positions that a day's trades make.
use Prim.Native.Nat.{ℕ, suc, ◌+◌, ◌-◌, ◌*◌, ◌≤◌, ◌<◌, max}
use native.Mathlib.Nat.{add-zero}
use native.Mathlib.Omega.{arith}
use mathlib.Core.Path.{◌≡◌, refl, ap, sym, ◌∙◌}
use mathlib.Core.List.{List, [], ◌∷◌, map}
use mathlib.Core.Bool.{Bool, true, false, ◌&&◌}
use lib.ListN.{length}
use lib.Dec.{ltb, eqb}
use borrow.Author.Tests.{ltb-true, ltb-false, eqb-true}
use Rattle.laws.specs.Lists.{only, keep, sum, each, range, All}
use Rattle.laws.specs.Asked.{Said, passed, failed, ask, and_right, Within}
use Rattle.laws.specs.Sums.{only_zero, only_le, sum_zero, sum_same, sum_le, sum_keep, sum_each, sum_swap, sum_add, sum_one, sum_once, length_each}
use Rattle.laws.specs.Sums.{only_sum, sum_length}
use Rattle.laws.specs.Alls.{all_any, all_keep, all_each, all_map, all_of, all_range}
use Rattle.laws.specs.Highest.{highest_most}
use Rattle.events.specs.declared.Trade.{Trade}
use Rattle.plain.specs.declared.Kind.{Kind}
use Rattle.plain.specs.declared.Kind.TheVariants.{Client}
use Rattle.plain.specs.declared.Position.{Position}
use Rattle.plain.specs.Netting.{kind_number, kinds, Key, kind_keys, member_keys, keys, sold_in, bought_in, buys, sells, units, highest_price, made, net, netted, net_of}
use Rattle.plain.specs.Dealing.{long_of}
use Rattle.plain.specs.Invariants.{TradeFits, Fair, Whole, netted_of, short_on, long_on, KeyFits}

-- KEYS

-- the key of a member, the number of a kind and a security
abbrev pub is_key : ℕ → ℕ → ℕ → Key → Bool
is_key member kind security k = eqb member k.member && eqb kind (kind_number k.kind) && eqb security k.security

-- each key occurs at most once in a list: what counts c at each occurrence counts at most c
abbrev pub Once : List Key → Type 0
Once ks = (member kind security c : ℕ) → sum (λ k. only (is_key member kind security k) c) ks ≤ c

-- each key of a member, a kind and a registered security occurs just once
abbrev pub Complete : ℕ → List Key → Type 0
Complete count ks =
    (member kind security c : ℕ) → Within 1 63 member → kind ≤ kind_number Client → Within 1 count security → sum (λ k. only (is_key member kind security k) c) ks ≡ c

abbrev key : ℕ → Kind → ℕ → Key
key m n s = record { member = m; kind = n; security = s }

-- over any members, kinds and securities, so that no range is written out
abbrev keys_of : List ℕ → List Kind → List ℕ → List Key
keys_of ms ns ss = each (λ m. each (λ n. each (λ s. key m n s ∷ []) ss) ns) ms

sum_single : {A B : Type 0} (f : B → ℕ) (g : A → B) (xs : List A) → sum f (each (λ x. g x ∷ []) xs) ≡ sum (λ x. f (g x)) xs
sum_single f g xs = sum_each f (λ x. g x ∷ []) xs ∙ sum_same (λ x. f (g x) + 0) (λ x. f (g x)) xs (λ x. add-zero (f (g x)))

sum_keys : (f : Key → ℕ) (ms : List ℕ) (ns : List Kind) (ss : List ℕ) → sum f (keys_of ms ns ss) ≡ sum (λ m. sum (λ n. sum (λ s. f (key m n s)) ss) ns) ms
sum_keys f ms ns ss =
    sum_each f (λ m. each (λ n. each (λ s. key m n s ∷ []) ss) ns) ms
    ∙ sum_same (λ m. sum f (each (λ n. each (λ s. key m n s ∷ []) ss) ns)) (λ m. sum (λ n. sum (λ s. f (key m n s)) ss) ns) ms
    (λ m. sum_each f (λ n. each (λ s. key m n s ∷ []) ss) ns
    ∙ sum_same (λ n. sum f (each (λ s. key m n s ∷ []) ss)) (λ n. sum (λ s. f (key m n s)) ss) ns (λ n. sum_single f (key m n) ss))

pub only_both : (a b : Bool) (n : ℕ) → only (a && b) n ≡ only a (only b n)
only_both true b n = refl
only_both false b n = refl

-- a test that does not look at the element counts all of them or none
sum_both : {A : Type 0} (b : Bool) (test : A → Bool) (c : ℕ) (xs : List A) → sum (λ x. only (b && test x) c) xs ≡ only b (sum (λ x. only (test x) c) xs)
sum_both true test c xs = refl
sum_both false test c xs = sum_zero xs

-- what counts c at each occurrence of a key counts it for each member, kind and security that is its own
module _ (member kind security c : ℕ) (ms : List ℕ) (ns : List Kind) (ss : List ℕ) where
  abbrev of_securities : ℕ
  of_securities = sum (λ s. only (eqb security s) c) ss

  abbrev of_kinds : ℕ
  of_kinds = sum (λ n. only (eqb kind (kind_number n)) of_securities) ns

  kind_sum : (m : ℕ) → sum (λ n. sum (λ s. only (is_key member kind security (key m n s)) c) ss) ns ≡ only (eqb member m) of_kinds
  kind_sum m =
      sum_same (λ n. sum (λ s. only (is_key member kind security (key m n s)) c) ss) (λ n. only (eqb member m) (only (eqb kind (kind_number n)) of_securities)) ns
      (λ n. sum_both (eqb member m && eqb kind (kind_number n)) (eqb security) c ss ∙ only_both (eqb member m) (eqb kind (kind_number n)) of_securities)
      ∙ sym (only_sum (eqb member m) (λ n. only (eqb kind (kind_number n)) of_securities) ns)

  sum_key : sum (λ k. only (is_key member kind security k) c) (keys_of ms ns ss) ≡ sum (λ m. only (eqb member m) of_kinds) ms
  sum_key =
      sum_keys (λ k. only (is_key member kind security k) c) ms ns ss
      ∙ sum_same (λ m. sum (λ n. sum (λ s. only (is_key member kind security (key m n s)) c) ss) ns) (λ m. only (eqb member m) of_kinds) ms kind_sum

-- the two kinds have the numbers 0 and 1
kinds_once : (kind c : ℕ) → sum (λ n. only (eqb kind (kind_number n)) c) kinds ≤ c
kinds_once kind c = omega (arith, sum_once kind c 0 2)

kinds_one : (kind c : ℕ) → kind ≤ kind_number Client → sum (λ n. only (eqb kind (kind_number n)) c) kinds ≡ c
kinds_one kind c h = omega (arith, sum_one kind c 0 2 (omega arith) (omega arith))

ranges_once : (members count : ℕ) → Once (keys_of (range 1 members) kinds (range 1 count))
ranges_once members count member kind security c =
    let these : ℕ = of_securities member kind security c (range 1 members) kinds (range 1 count) in
    omega (
      arith,
      sum_key member kind security c (range 1 members) kinds (range 1 count),
      sum_once member (sum (λ n. only (eqb kind (kind_number n)) these) kinds) 1 members,
      kinds_once kind these,
      sum_once security c 1 count,
    )

ranges_complete : (members count member kind security c : ℕ) → Within 1 members member → kind ≤ kind_number Client → Within 1 count security
    → sum (λ k. only (is_key member kind security k) c) (keys_of (range 1 members) kinds (range 1 count)) ≡ c
ranges_complete members count member kind security c h n k =
    let these : ℕ = of_securities member kind security c (range 1 members) kinds (range 1 count) in
    sum_key member kind security c (range 1 members) kinds (range 1 count)
    ∙ sum_one member (sum (λ n. only (eqb kind (kind_number n)) these) kinds) 1 members h.above (omega arith)
    ∙ kinds_one kind these n
    ∙ sum_one security c 1 count k.above (omega arith)

-- a kind's keys are of a member and a registered security
pub kind_fits : (count member : ℕ) (kind : Kind) → Within 1 63 member → All (KeyFits count) (kind_keys count member kind)
kind_fits count member kind h =
    all_each (KeyFits count) (λ s. key member kind s ∷ []) (λ s. (1 ≤ s) × (s < 1 + count)) (range 1 count)
    (λ s hs. (record { member = h; security = record { above = hs.0; below = omega (arith, hs.1) } }, tt))
    (all_range 1 count)

ranges_fit : (members count : ℕ) → members ≤ 63 → All (KeyFits count) (keys_of (range 1 members) kinds (range 1 count))
ranges_fit members count l =
    all_each (KeyFits count) (member_keys count) (λ m. (1 ≤ m) × (m < 1 + members)) (range 1 members)
    (λ m hm.
    all_each (KeyFits count) (kind_keys count m) (λ n. Unit {0}) kinds
    (λ n u. kind_fits count m n (record { above = hm.0; below = omega (arith, hm.1) }))
    (all_any (λ n. Unit {0}) kinds (λ n. tt)))
    (all_range 1 members)

pub keys_once : (count : ℕ) → Once (keys count)
unfolding keys
keys_once count = ranges_once 63 count

pub keys_complete : (count : ℕ) → Complete count (keys count)
unfolding keys
keys_complete count = ranges_complete 63 count

pub keys_fit : (count : ℕ) → All (KeyFits count) (keys count)
unfolding keys
keys_fit count = ranges_fit 63 count (omega arith)

-- UNITS AND PRICES OF TRADES

some_price : (b : Bool) (q p u high : ℕ) → 1 ≤ p → 0 < only b q + u → (0 < u → 1 ≤ high) → 1 ≤ max (only b p) high
some_price true q p u high h k rest = omega arith
some_price false q p u high h k rest = omega (arith, rest (omega arith))

some_trade : (b : Bool) (q u n : ℕ) → 0 < only b q + u → (0 < u → 1 ≤ n) → 1 ≤ only b 1 + n
some_trade true q u n k rest = omega arith
some_trade false q u n k rest = omega (arith, rest (omega arith))

module _ (test : Trade → Bool) where
  -- where units were traded, there was a trade
  pub trades_ge : (trades : List Trade) → 0 < units test trades → 1 ≤ sum (λ t. only (test t) 1) trades
  unfolding units
  trades_ge [] k = k
  trades_ge (t ∷ trades) k =
      some_trade (test t) t.quantity (units test trades) (sum (λ t. only (test t) 1) trades) k (λ u. trades_ge trades u)

  module _ (count : ℕ) where
    pub units_le : (trades : List Trade) → All (TradeFits count) trades → units test trades ≤ length trades * 1000000
    unfolding units
    units_le [] h = omega arith
    units_le (t ∷ trades) h =
        omega (arith, h.0.quantity.below, only_le (test t) t.quantity, units_le trades h.1)

    pub highest_le : (trades : List Trade) → All (TradeFits count) trades → highest_price test trades ≤ 10000000
    unfolding highest_price
    highest_le trades h =
        highest_most 10000000 (map (λ t. only (test t) t.price) trades)
        (all_map (λ n. n ≤ 10000000) (λ t. only (test t) t.price) (TradeFits count) trades (λ t f. omega (arith, f.price.below, only_le (test t) t.price)) h)

    -- where units were traded, there was a price
    pub highest_ge : (trades : List Trade) → All (TradeFits count) trades → 0 < units test trades → 1 ≤ highest_price test trades
    unfolding highest_price units
    highest_ge [] h k = k
    highest_ge (t ∷ trades) h k =
        some_price (test t) t.quantity t.price (units test trades) (highest_price test trades) h.0.price.above k
        (λ u. highest_ge trades h.1 u)

-- THE NET OF ONE KEY

module _ (day : ℕ) (trades : List Trade) (k : Key) where
  abbrev pub sold_by : ℕ
  sold_by = units (sells k) trades

  abbrev pub bought_by : ℕ
  bought_by = units (buys k) trades

  abbrev pub short_made : Position
  short_made = made day k true (sold_by - bought_by) (highest_price (sells k) trades)

  abbrev pub long_made : Position
  long_made = made day k false (bought_by - sold_by) (highest_price (buys k) trades)

  pub all_net : (P : Position → Type 0) → (bought_by < sold_by → P short_made) → (sold_by < bought_by → P long_made) → All P (net day trades k)
  unfolding net net_of
  all_net P h l =
      all_keep P (ltb bought_by sold_by) short_made (keep (ltb sold_by bought_by) long_made []) (λ e. h (ltb-true bought_by sold_by e))
      (all_keep P (ltb sold_by bought_by) long_made [] (λ e. l (ltb-true sold_by bought_by e)) tt)

  pub sum_net : (f : Position → ℕ) → sum f (net day trades k) ≡ only (ltb bought_by sold_by) (f short_made) + only (ltb sold_by bought_by) (f long_made)
  unfolding net net_of
  sum_net f =
      omega (
        arith,
        sum_keep f (ltb bought_by sold_by) short_made (keep (ltb sold_by bought_by) long_made []),
        sum_keep f (ltb sold_by bought_by) long_made [],
      )

-- WHAT NETTING MAKES

-- a position as netting makes it on a day, whatever the trades
pub record New (day : ℕ) (p : Position) : Type 0 where
  pub settlement : p.settlement.0 ≡ day + 2
  pub unsettled : p.unsettled ≡ p.netted
  pub delivered : p.delivered ≡ 0
  pub bought : p.bought ≡ 0
  pub cash : p.cash ≡ 0
  pub paired : p.paired ≡ 0

pub new_whole : (day : ℕ) (p : Position) → New day p → Whole p
new_whole day p h = omega (arith, h.unsettled, h.delivered, h.bought, h.cash, h.paired)

made_new : (day : ℕ) (k : Key) (short : Bool) (quantity reference : ℕ) → New day (made day k short quantity reference)
unfolding made
made_new day k short quantity reference =
    record { settlement = refl; unsettled = refl; delivered = refl; bought = refl; cash = refl; paired = refl }

pub netted_new : (day : ℕ) (trades : List Trade) (ks : List Key) → All (New day) (netted day trades ks)
unfolding netted
netted_new day trades ks =
    all_each (New day) (net day trades) (λ k. Unit {0}) ks
    (λ k u. all_net day trades k (New day) (λ l. made_new day k true _ _) (λ l. made_new day k false _ _))
    (all_any (λ k. Unit {0}) ks (λ k. tt))

pub netted_whole : (day : ℕ) (trades : List Trade) (ks : List Key) → All Whole (netted day trades ks)
netted_whole day trades ks = all_of (New day) Whole (netted day trades ks) (new_whole day) (netted_new day trades ks)

module _ (count day : ℕ) (trades : List Trade) (h : All (TradeFits count) trades) (l : length trades ≤ 512) where
  -- a position of more units of one kind than of the other
  made_fair : (k : Key) (short : Bool) (these others : Trade → Bool) → KeyFits count k → units others trades < units these trades → Fair count (suc day) (made day k short (units these trades - units others trades) (highest_price these trades))
  unfolding made
  made_fair k short these others f less =
      record {
        member = f.member;
        security = f.security;
        settlement = omega arith;
        reference = record { above = highest_ge these count trades h (omega arith); below = highest_le these count trades h };
        netted = record { above = omega arith; below = omega (arith, units_le these count trades h) };
      }

  net_fair : (k : Key) → KeyFits count k → All (Fair count (suc day)) (net day trades k)
  net_fair k f =
      all_net day trades k (Fair count (suc day)) (made_fair k true (sells k) (buys k) f) (made_fair k false (buys k) (sells k) f)

  pub netted_fair : (ks : List Key) → All (KeyFits count) ks → All (Fair count (suc day)) (netted day trades ks)
  unfolding netted
  netted_fair ks fits = all_each (Fair count (suc day)) (net day trades) (KeyFits count) ks net_fair fits

-- SUMS OVER KEYS AND TRADES

-- what each key has of the trades in which it names one of the two parties is, over all keys, at most what the trades have
pub named_le : (party kind f : Trade → ℕ) (trades : List Trade) (ks : List Key) → Once ks → sum (λ k. sum (λ t. only (is_key (party t) (kind t) t.security k) (f t)) trades) ks ≤ sum f trades
named_le party kind f trades ks once =
    omega (
      arith,
      sum_swap (λ k t. only (is_key (party t) (kind t) t.security k) (f t)) ks trades,
      sum_le (λ t. sum (λ k. only (is_key (party t) (kind t) t.security k) (f t)) ks) f trades (λ t. once (party t) (kind t) t.security (f t)),
    )

net_count : (day : ℕ) (trades : List Trade) (k : Key) → length (net day trades k) ≤ sum (λ t. only (sells k t) 1) trades + sum (λ t. only (buys k t) 1) trades
net_count day trades k =
    omega (arith, sum_length (net day trades k), sum_net day trades k (λ p. 1), one (sells k) (buys k), one (buys k) (sells k))
  where
    one : (this other : Trade → Bool) → only (ltb (units other trades) (units this trades)) 1 ≤ sum (λ t. only (this t) 1) trades
    one this other = go (ask (ltb (units other trades) (units this trades)))
      where
        go : Said (ltb (units other trades) (units this trades)) → only (ltb (units other trades) (units this trades)) 1 ≤ sum (λ t. only (this t) 1) trades
        go (passed e) = simp e (trades_ge this trades (omega (arith, ltb-true (units other trades) (units this trades) e)))
        go (failed e) = simp e (omega arith)

-- "512 trades a book make at most 1,024 positions": at most two a trade
pub netted_count : (day : ℕ) (trades : List Trade) (ks : List Key) → Once ks → length (netted day trades ks) ≤ 2 * length trades
unfolding netted
netted_count day trades ks once =
    omega (
      arith,
      length_each (net day trades) ks,
      sum_le (λ k. length (net day trades k)) (λ k. sum (λ t. only (sells k t) 1) trades + sum (λ t. only (buys k t) 1) trades) ks (net_count day trades),
      sum_add (λ k. sum (λ t. only (sells k t) 1) trades) (λ k. sum (λ t. only (buys k t) 1) trades) ks,
      named_le (λ t. t.seller) sold_in (λ t. 1) trades ks once,
      named_le (λ t. t.buyer) bought_in (λ t. 1) trades ks once,
      sum_length trades,
    )

-- a difference counts only where it is above 0
pub only_above : (a b : ℕ) (c : Bool) → only (ltb a b) (only c (b - a)) ≡ only c (b - a)
only_above a b c = go (ask (ltb a b))
  where
    go : Said (ltb a b) → only (ltb a b) (only c (b - a)) ≡ only c (b - a)
    go (passed e) = simp e
    go (failed e) =
        let none : b - a ≡ 0 = omega (arith, ltb-false a b e) in
        simp e (sym (ap (λ (n : ℕ). only c n) none ∙ only_zero c))

-- the new shorts have at most the units of the trades
pub netted_units : (day : ℕ) (trades : List Trade) (ks : List Key) → Once ks → netted_of (λ p. p.short) (netted day trades ks) ≤ sum (λ t. t.quantity) trades
unfolding netted
netted_units day trades ks once =
    omega (
      arith,
      sum_each (λ p. only p.short p.netted) (net day trades) ks,
      sum_le (λ k. sum (λ p. only p.short p.netted) (net day trades k)) (λ k. units (sells k) trades) ks shorts,
      sold,
    )
  where
    shorts : (k : Key) → sum (λ p. only p.short p.netted) (net day trades k) ≤ units (sells k) trades
    shorts k =
        unfold made in omega (
          arith,
          sum_net day trades k (λ p. only p.short p.netted),
          only_zero (ltb (units (sells k) trades) (units (buys k) trades)),
          only_le (ltb (units (buys k) trades) (units (sells k) trades)) (units (sells k) trades - units (buys k) trades),
        )

    sold : sum (λ k. units (sells k) trades) ks ≤ sum (λ t. t.quantity) trades
    sold = unfold units in named_le (λ t. t.seller) sold_in (λ t. t.quantity) trades ks once

-- EQUAL TOTALS

-- a side of a trade that some key names
pub record Named (m n : ℕ) : Type 0 where
  pub member : Within 1 63 m
  pub kind : n ≤ kind_number Client

-- over complete keys, what the keys of some securities trade as one of the two parties is what is traded of those securities
module _ (count : ℕ) (securities : ℕ → Bool) (party kind : Trade → ℕ) where
  -- the key's security is the trade's
  same_security : (t : Trade) (k : Key) → only (securities k.security) (only (is_key (party t) (kind t) t.security k) t.quantity) ≡ only (is_key (party t) (kind t) t.security k) (only (securities t.security) t.quantity)
  same_security t k = go (ask (is_key (party t) (kind t) t.security k))
    where
      go : Said (is_key (party t) (kind t) t.security k) → only (securities k.security) (only (is_key (party t) (kind t) t.security k) t.quantity) ≡ only (is_key (party t) (kind t) t.security k) (only (securities t.security) t.quantity)
      go (passed e) =
          let same : t.security ≡ k.security = eqb-true t.security k.security (and_right (eqb (party t) k.member && eqb (kind t) (kind_number k.kind)) (eqb t.security k.security) e) in
          simp e (ap (λ (n : ℕ). only (securities n) t.quantity) (sym same))
      go (failed e) = simp e (only_zero (securities k.security))

  pub traded_by_lem : (trades : List Trade) (ks : List Key) → Complete count ks → All (TradeFits count) trades → All (λ t. Named (party t) (kind t)) trades
      → sum (λ k. only (securities k.security) (units (λ t. is_key (party t) (kind t) t.security k) trades)) ks ≡ sum (λ t. only (securities t.security) t.quantity) trades
  unfolding units
  traded_by_lem trades ks complete h parties =
      sum_same (λ k. only (securities k.security) (sum (λ t. only (is_key (party t) (kind t) t.security k) t.quantity) trades))
      (λ k. sum (λ t. only (is_key (party t) (kind t) t.security k) (only (securities t.security) t.quantity)) trades) ks
      (λ k. only_sum (securities k.security) (λ t. only (is_key (party t) (kind t) t.security k) t.quantity) trades
      ∙ sum_same (λ t. only (securities k.security) (only (is_key (party t) (kind t) t.security k) t.quantity)) (λ t. only (is_key (party t) (kind t) t.security k) (only (securities t.security) t.quantity)) trades (λ t. same_security t k))
      ∙ sum_swap (λ k t. only (is_key (party t) (kind t) t.security k) (only (securities t.security) t.quantity)) ks trades
      ∙ each_trade trades h parties
    where
      each_trade : (ts : List Trade) → All (TradeFits count) ts → All (λ t. Named (party t) (kind t)) ts
          → sum (λ t. sum (λ k. only (is_key (party t) (kind t) t.security k) (only (securities t.security) t.quantity)) ks) ts ≡ sum (λ t. only (securities t.security) t.quantity) ts
      each_trade [] f p = refl
      each_trade (t ∷ ts) f p =
          omega (
            arith,
            complete (party t) (kind t) t.security (only (securities t.security) t.quantity) p.0.member p.0.kind f.0.security,
            each_trade ts f.1 p.1,
          )

-- what is short of one side is long of the other
cross : {A : Type 0} (c : A → Bool) (f g : A → ℕ) (xs : List A) → sum (λ x. only (c x) (f x - g x)) xs + sum (λ x. only (c x) (g x)) xs ≡ sum (λ x. only (c x) (g x - f x)) xs + sum (λ x. only (c x) (f x)) xs
cross c f g [] = refl
cross c f g (x ∷ xs) = omega (arith, cross c f g xs, one (c x) (f x) (g x))
  where
    one : (b : Bool) (m n : ℕ) → only b (m - n) + only b n ≡ only b (n - m) + only b m
    one true m n = omega arith
    one false m n = refl

module _ (day d s : ℕ) (trades : List Trade) where
  -- the securities that count: s, if the day's positions settle on d
  abbrev counts : ℕ → Bool
  counts security = eqb security s && eqb (day + 2) d

  short_net : (k : Key) → netted_of (short_on d s) (net day trades k) ≡ only (counts k.security) (units (sells k) trades - units (buys k) trades)
  unfolding made
  short_net k =
      omega (
        arith,
        sum_net day trades k (λ p. only (short_on d s p) p.netted),
        only_zero (ltb (units (sells k) trades) (units (buys k) trades)),
        only_above (units (buys k) trades) (units (sells k) trades) (counts k.security),
      )

  long_net : (k : Key) → netted_of (long_on d s) (net day trades k) ≡ only (counts k.security) (units (buys k) trades - units (sells k) trades)
  unfolding made long_of
  long_net k =
      omega (
        arith,
        sum_net day trades k (λ p. only (long_on d s p) p.netted),
        only_zero (ltb (units (buys k) trades) (units (sells k) trades)),
        only_above (units (sells k) trades) (units (buys k) trades) (counts k.security),
      )

  pub netted_even : (count : ℕ) (ks : List Key) → Complete count ks → All (TradeFits count) trades → netted_of (short_on d s) (netted day trades ks) ≡ netted_of (long_on d s) (netted day trades ks)
  unfolding netted
  netted_even count ks complete h =
      omega (
        arith,
        sum_each (λ p. only (short_on d s p) p.netted) (net day trades) ks,
        sum_same (λ k. netted_of (short_on d s) (net day trades k)) (λ k. only (counts k.security) (units (sells k) trades - units (buys k) trades)) ks short_net,
        sum_each (λ p. only (long_on d s p) p.netted) (net day trades) ks,
        sum_same (λ k. netted_of (long_on d s) (net day trades k)) (λ k. only (counts k.security) (units (buys k) trades - units (sells k) trades)) ks long_net,
        cross (λ k. counts k.security) (λ k. units (sells k) trades) (λ k. units (buys k) trades) ks,
        traded_by_lem count counts (λ t. t.seller) sold_in trades ks complete h
            (all_of (TradeFits count) (λ t. Named t.seller (sold_in t)) trades (λ t f. record { member = f.seller; kind = omega (arith, f.sellerkind, f.buyerkind) }) h),
        traded_by_lem count counts (λ t. t.buyer) bought_in trades ks complete h
            (all_of (TradeFits count) (λ t. Named t.buyer (bought_in t)) trades (λ t f. record { member = f.buyer; kind = omega (arith, f.sellerkind, f.buyerkind) }) h),
      )

-- ALL OF IT, FOR THE KEYS OF A REGISTER

pub record Netting (count day : ℕ) (trades : List Trade) (ps : List Position) : Type 0 where
  pub new : All (New day) ps
  pub whole : All Whole ps
  pub fair : All (Fair count (suc day)) ps
  pub counted : length ps ≤ 2 * length trades
  pub shorts : netted_of (λ p. p.short) ps ≤ sum (λ t. t.quantity) trades
  pub even : (s d : ℕ) → netted_of (short_on d s) ps ≡ netted_of (long_on d s) ps

pub netting : (count day : ℕ) (trades : List Trade) → All (TradeFits count) trades → length trades ≤ 512 → Netting count day trades (netted day trades (keys count))
netting count day trades h l =
    record {
      new = netted_new day trades (keys count);
      whole = netted_whole day trades (keys count);
      fair = netted_fair count day trades h l (keys count) (keys_fit count);
      counted = netted_count day trades (keys count) (keys_once count);
      shorts = netted_units day trades (keys count) (keys_once count);
      even = λ s d. netted_even day d s trades count (keys count) (keys_complete count) h;
    }
