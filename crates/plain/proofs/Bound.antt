-- No account leaves plus or minus 10^17 cents. A close charges at most 2·10^12 cents in all, and a unit that is discharged at most 21,000,000;
-- the units that are open on shorts stand for what their discharge may yet cost.
use Prim.Native.Nat.{ℕ, ◌+◌, ◌-◌, ◌*◌, ◌/◌, ◌≤◌, ◌<◌, max}
use native.Mathlib.Nat.{mul-le-mul, mul-le-mul_left}
use native.Mathlib.Omega.{arith}
use mathlib.Core.Path.{◌≡◌, ap}
use mathlib.Core.Logic.{◌≢◌}
use mathlib.Core.List.{List, [], ◌∷◌, map}
use mathlib.Core.Bool.{Bool, true, false, not, ◌&&◌, cond}
use lib.ListN.{length, get_or}
use lib.Dec.{ltb, leb, eqb}
use Rattle.laws.specs.Lists.{only, sum, each, All}
use Rattle.laws.specs.Listed.{sum_append}
use Rattle.laws.specs.Sums.{only_le, sum_same_all, sum_each, sum_keep}
use Rattle.laws.specs.Alls.{all_of, all_any, all_map}
use Rattle.laws.specs.Highest.{highest_most}
use Rattle.laws.specs.Integers.{total, place_le, sum_at_most, sum_times, sub_magnitude}
use Rattle.rules.specs.declared.Amount.{Amount}
use Rattle.rules.specs.declared.Amount.TheVariants.{Debit, Credit}
use Rattle.rules.specs.Classes.{by_class}
use Rattle.rules.specs.Prices.{raised, cash_terms, cash_price}
use Rattle.rules.specs.Charged.{buy_in_amount}
use Rattle.rules.specs.Charges.{rounded_half_up, fee, cash_fee, award_fine, late_fine, buy_in_charge}
use Rattle.events.specs.declared.Trade.{Trade}
use Rattle.events.specs.declared.Delivery.{Delivery}
use Rattle.events.specs.declared.Confirm.{Confirm}
use Rattle.events.specs.declared.Cash as asked
use Rattle.events.specs.declared.Event.TheVariants as event
use Rattle.plain.specs.declared.Position.{Position}
use Rattle.plain.specs.declared.Piece.{Piece}
use Rattle.plain.specs.declared.Award.{Award}
use Rattle.plain.specs.declared.Manner.TheVariants.{Cash}
use Rattle.plain.specs.declared.Ledger.{Ledger}
use Rattle.plain.specs.Book.{Book, new, no_position, no_award, no_price, position_of, award_of, class_of, latest_of}
use Rattle.plain.specs.Netting.{keys, netted}
use Rattle.plain.specs.Dealing.{due, lowering}
use Rattle.plain.specs.Charging.{Charge, posted, charge, buy_in_charges, long_references, settlement_price, priced_at, payment, cash_charges, award_fines, late_fines, close_charges, cash_charges_by, fee_of}
use Rattle.plain.specs.Calls.{Call, call, dealt, discharged, hands_out, charges, done}
use Rattle.plain.specs.Refusals.{refusal}
use Rattle.plain.specs.Histories.{event_of, run, balance}
use Rattle.plain.specs.declared.Opening.{Opening}
use Rattle.plain.proofs.Accepted.{cash_taken, close_taken, run_keeps}
use Rattle.plain.specs.Invariants.{TradeFits, Fair, AwardFits, Dealt}
use Rattle.plain.specs.Sound.{cents, Balanced, Bound, Small, open_shorts}
use Rattle.plain.proofs.Accounts.{posts_credits, posted_most, Accountable, run_kept}
use Rattle.plain.proofs.Discharged.{shorts_fall}
use Rattle.plain.proofs.Netted.{New, netted_new, netted_units, keys_once}
use Rattle.plain.proofs.Numbered.{nth_anywhere}

-- what must be known of a book for its charges to be bounded
pub record Bounding (b : Book) : Type 0 where
  pub prices : All (λ p. p.price ≤ 10000000) b.prices
  pub positions : All (Fair b.opening.register.count b.day) b.positions
  pub awards : All AwardFits b.awards
  pub few : length b.awards ≤ 256
  pub trades : All (TradeFits b.opening.register.count) b.trades
  pub room : b.past + length b.trades ≤ 512

-- Prices and charges of one step

cond_either : {A : Type 0} (P : A → Type 0) (t : Bool) (x y : A) → P x → P y → P (cond t x y)
cond_either P true x y h k = h
cond_either P false x y h k = k

class_each : {A : Type 0} (P : A → Type 0) (class : ℕ) (a b c d : A) → P a → P b → P c → P d → P (by_class class a b c d)
class_each P class a b c d h k l m =
    let last = cond_either P (eqb class 3) c d l m in
    let later = cond_either P (eqb class 2) b (cond (eqb class 3) c d) k last in
    cond_either P (eqb class 1) a (cond (eqb class 2) b (cond (eqb class 3) c d)) h later

award_fine_most : (class quantity latest : ℕ) → quantity ≤ 1000000 → latest ≤ 10000000 → award_fine class (quantity * latest) ≤ 4000000000
unfolding award_fine rounded_half_up
award_fine_most class quantity latest h k =
    let value : quantity * latest ≤ 1000000 * 10000000 = mul-le-mul h k in
    let share : max 100000 ((2 * (quantity * latest) + 2500) / 5000) ≤ 4000000000 = omega arith in
    class_each (λ n. n ≤ 4000000000) class _ _ _ _ share share (omega arith) (omega arith)

late_fine_most : (unsettled latest : ℕ) → latest ≤ 10000000 → late_fine (unsettled * latest) ≤ 1000 * unsettled
unfolding late_fine rounded_half_up
late_fine_most unsettled latest h =
    let value : unsettled * latest ≤ unsettled * 10000000 = mul-le-mul_left unsettled h in
    omega arith

cash_fee_most : (value : ℕ) → cash_fee value ≤ 100000
unfolding cash_fee fee
cash_fee_most value = omega arith

cash_price_most : (class short latest : ℕ) (longs : List ℕ) → short ≤ 10000000 → All (λ long. long ≤ 10000000) longs → latest ≤ 10000000 → cash_price class short longs latest ≤ 20000000
unfolding cash_price raised
cash_price_most class short latest longs h k l =
    let most : by_class class (2 * latest) (2 * latest) (latest + 300) 0 ≤ 20000000 = class_each (λ n. n ≤ 20000000) class _ _ _ _ (omega arith) (omega arith) (omega arith) (omega arith) in
    highest_most 20000000 (cash_terms class short longs latest)
    (omega arith, (most, all_of (λ long. long ≤ 10000000) (λ long. long ≤ 20000000) longs (λ long g. omega (arith, g)) k))

buy_in_most : (member quantity price reference : ℕ) → price ≤ 10000000 → reference ≤ 10000000 → (charge member (buy_in_charge quantity price reference)).cents ≤ 10000000 * quantity
unfolding charge
buy_in_most member quantity price reference h k =
    let over : quantity * price ≤ quantity * 10000000 = mul-le-mul_left quantity h in
    let under : quantity * reference ≤ quantity * 10000000 = mul-le-mul_left quantity k in
    rw (buy_in_amount quantity price reference)
    (cond_either (λ (a : Amount). (charge member a).cents ≤ 10000000 * quantity) (leb (quantity * reference) (quantity * price)) (Debit (quantity * price - quantity * reference)) (Credit (quantity * reference - quantity * price)) (omega arith) (omega arith))

-- a fine that is due only from a short
only_first : (a b c d : Bool) (n : ℕ) → only (a && b && c && d) n ≤ only a n
only_first true b c d n = only_le (b && c && d) n
only_first false b c d n = omega arith

only_times : (t : Bool) (m x y : ℕ) → x ≤ m * y → only t x ≤ m * only t y
only_times true m x y h = h
only_times false m x y h = omega arith

module _ (b : Book) (h : Bounding b) where
  latest_most : (s : ℕ) → latest_of b s ≤ 10000000
  latest_most s = nth_anywhere no_price (λ l. l.price ≤ 10000000) b.prices s (omega arith) h.prices

  reference_most : (n : ℕ) → (position_of b n).reference ≤ 10000000
  reference_most n =
      nth_anywhere no_position (λ (p : Position). p.reference ≤ 10000000) b.positions n (omega arith)
      (all_of (Fair b.opening.register.count b.day) (λ p. p.reference ≤ 10000000) b.positions (λ p f. f.reference.below) h.positions)

  award_price_most : (n : ℕ) → (award_of b n).price ≤ 10000000
  award_price_most n =
      nth_anywhere no_award (λ (a : Award). a.price ≤ 10000000) b.awards n (omega arith)
      (all_of AwardFits (λ a. a.price ≤ 10000000) b.awards (λ a f. f.price.below) h.awards)

  -- a buy-in charges at most 10,000,000 cents a unit
  confirm_cents : (c : Confirm) → cents (charges b (event.Confirm c)) ≤ 10000000 * (award_of b c.award).quantity
  unfolding charges buy_in_charges
  confirm_cents c =
      let a = award_of b c.award in
      omega (arith, buy_in_most (position_of b a.position).member a.quantity a.price (position_of b a.position).reference (award_price_most c.award) (reference_most a.position))

  -- a cash settlement at most 20,000,000 cents a unit, and its fee
  settlement_most : (n : ℕ) (xs : List Piece) → settlement_price b n xs ≤ 20000000
  unfolding settlement_price cash_price
  settlement_most n xs =
      let short = position_of b n in
      cash_price_most (class_of b short.security) short.reference (latest_of b short.security) (long_references b.positions xs) (reference_most n)
      (all_map (λ long. long ≤ 10000000) (λ x. (position_of b x.long).reference) (λ x. Unit {0}) xs (λ x u. reference_most x.long) (all_any (λ x. Unit {0}) xs (λ x. tt)))
      (latest_most short.security)

  payments_most : (price : Piece → ℕ) → ((x : Piece) → price x ≤ 20000000) → (xs : List Piece)
      → cents (map (payment b.positions) (map (λ x. priced_at (price x) x) xs)) ≤ 20000000 * sum (λ x. x.quantity) (map (λ x. priced_at (price x) x) xs)
  unfolding payment priced_at
  payments_most price h [] = omega arith
  payments_most price h (x ∷ xs) = omega (arith, payments_most price h xs, mul-le-mul_left x.quantity (h x))

  cash_paid : (c : asked.Cash) → cents (map (payment b.positions) (hands_out b (event.Cash c))) ≤ 20000000 * sum (λ x. x.quantity) (hands_out b (event.Cash c))
  unfolding hands_out
  cash_paid c = payments_most _ (λ x. settlement_most c.position _) (dealt b Cash c.position (position_of b c.position).unsettled)

  cash_cents : (c : asked.Cash) → Dealt b (event.Cash c) → cents (charges b (event.Cash c)) ≤ 20000000 * (position_of b c.position).unsettled + 100000
  unfolding charges cash_charges cash_charges_by
  cash_cents c d =
      let xs = hands_out b (event.Cash c) in
      omega (
        arith,
        sum_append (λ (c : Charge). c.cents) (map (payment b.positions) xs) (fee_of (position_of b c.position) (latest_of b (position_of b c.position).security) ∷ []),
        cash_paid c,
        d.total,
        cash_fee_most ((position_of b c.position).unsettled * latest_of b (position_of b c.position).security),
      )

  -- a close at most 4·10^9 cents an award and 1,000 cents a unit
  award_cents : (a : Award) → AwardFits a → cents (award_fines b a) ≤ 4000000000
  unfolding award_fines
  award_cents a f =
      let security = (position_of b a.position).security in
      let fine = award_fine (class_of b security) (a.quantity * latest_of b security) in
      let test = not a.confirmed && ltb 0 (latest_of b security) in
      omega (
        arith,
        sum_keep (λ (c : Charge). c.cents) test (record { payer = a.offerer; payee = 0; cents = fine }) [],
        only_le test fine,
        award_fine_most (class_of b security) a.quantity (latest_of b security) f.quantity.below (latest_most security),
      )

  late_cents : (p : Position) → cents (late_fines b p) ≤ 1000 * only p.short p.unsettled
  unfolding late_fines
  late_cents p =
      let latest = latest_of b p.security in
      let fine = late_fine (p.unsettled * latest) in
      let test = p.short && due b.day p && eqb (class_of b p.security) 1 && ltb 0 latest in
      omega (
        arith,
        sum_keep (λ (c : Charge). c.cents) test (record { payer = p.member; payee = 0; cents = fine }) [],
        only_first p.short (due b.day p) (eqb (class_of b p.security) 1) (ltb 0 latest) fine,
        only_times p.short 1000 fine p.unsettled (late_fine_most p.unsettled latest (latest_most p.security)),
      )

  close_cents : cents (charges b event.Close) ≤ 4000000000 * length b.awards + 1000 * open_shorts b.positions
  unfolding charges close_charges
  close_cents =
      omega (
        arith,
        sum_append (λ (c : Charge). c.cents) (each (award_fines b) b.awards) (each (late_fines b) b.positions),
        sum_each (λ (c : Charge). c.cents) (award_fines b) b.awards,
        sum_each (λ (c : Charge). c.cents) (late_fines b) b.positions,
        sum_at_most (λ a. cents (award_fines b a)) 4000000000 b.awards (all_of AwardFits (λ a. cents (award_fines b a) ≤ 4000000000) b.awards award_cents h.awards),
        sum_times (λ p. cents (late_fines b p)) (λ p. only p.short p.unsettled) 1000 b.positions (all_any (λ p. cents (late_fines b p) ≤ 1000 * only p.short p.unsettled) b.positions late_cents),
      )

-- What a close opens on shorts: no trade is a sale of two keys

-- the new shorts have no more units than the day's trades
netted_shorts : (day : ℕ) (trades : List Trade) (count : ℕ) → open_shorts (netted day trades (keys count)) ≤ sum (λ t. t.quantity) trades
netted_shorts day trades count =
    omega (
      arith,
      sum_same_all (λ p. only p.short p.unsettled) (λ p. only p.short p.netted) (netted day trades (keys count))
          (all_of (New day) (λ p. only p.short p.unsettled ≡ only p.short p.netted) (netted day trades (keys count)) (λ p n. ap (λ (k : ℕ). only p.short k) n.unsettled) (netted_new day trades (keys count))),
      netted_units day trades (keys count) (keys_once count),
    )

traded_most : (count : ℕ) (trades : List Trade) → All (TradeFits count) trades → sum (λ t. t.quantity) trades ≤ 1000000 * length trades
traded_most count trades h =
    sum_at_most (λ t. t.quantity) 1000000 trades (all_of (TradeFits count) (λ t. t.quantity ≤ 1000000) trades (λ t f. f.quantity.below) h)

-- The steps

credits_most : (l : Ledger) (cs : List Charge) → total (posted l cs).credits ≤ total l.credits + cents cs
credits_most = posted_most (λ l. l.credits) (λ c. c.payee) posts_credits

-- a discharge of q units that charges at most 21,000,000 cents a unit
discharge_bound : (b : Book) (xs : List Piece) (cs : List Charge) (q : ℕ) → open_shorts (lowering xs b.positions) + q ≡ open_shorts b.positions → cents cs ≤ 21000000 * q → Bound b → Bound (discharged b xs cs)
unfolding discharged
discharge_bound b xs cs q e l h =
    record { day = h.day; units = omega (arith, h.units); cents = omega (arith, h.cents, credits_most b.ledger cs) }

close_bound : (b : Book) → b.day < 9999 → Bounding b → Bound b → Bound (done b event.Close)
unfolding done
close_bound b early f h =
    let fresh = netted b.day b.trades (keys b.opening.register.count) in
    let joined = sum_append (λ (p : Position). only p.short p.unsettled) b.positions fresh in
    let few : open_shorts fresh ≤ sum (λ t. t.quantity) b.trades = netted_shorts b.day b.trades b.opening.register.count in
    let small = traded_most b.opening.register.count b.trades f.trades in
    record {
      day = early;
      units = omega (arith, joined, few, small, h.units);
      cents = omega (arith, joined, few, small, h.units, h.cents, f.few, f.room, credits_most b.ledger (charges b event.Close), close_cents b f);
    }

-- every accepted call keeps the bound
pub done_bound : (b : Book) (c : Call) → refusal b c ≡ 0 → Bounding b → Dealt b (event_of c) → Bound b → Bound (done b (event_of c))
unfolding done
done_bound b (call (event.Trade t) sheet) r f d h = record { day = h.day; units = h.units; cents = h.cents }
done_bound b (call (event.Price p) sheet) r f d h = record { day = h.day; units = h.units; cents = h.cents }
done_bound b (call (event.Delivery e) sheet) r f d h =
    discharge_bound b (hands_out b (event.Delivery e)) (charges b (event.Delivery e)) e.quantity
    (shorts_fall d) (unfold charges in omega arith) h
done_bound b (call (event.Attempt a) sheet) r f d h = record { day = h.day; units = h.units; cents = h.cents }
done_bound b (call (event.Offer o) sheet) r f d h = record { day = h.day; units = h.units; cents = h.cents }
done_bound b (call (event.Award a) sheet) r f d h = record { day = h.day; units = h.units; cents = h.cents }
done_bound b (call (event.Confirm c) sheet) r f d h =
    let a = award_of b c.award in
    let fall = shorts_fall d in
    let k = discharge_bound b (hands_out b (event.Confirm c)) (charges b (event.Confirm c)) a.quantity fall (omega (arith, confirm_cents b f c)) h in
    record { day = k.day; units = k.units; cents = k.cents }
done_bound b (call (event.Cash c) sheet) r f d h =
    let q = (position_of b c.position).unsettled in
    let some : q ≢ 0 = (cash_taken b c sheet r).unsettled in
    discharge_bound b (hands_out b (event.Cash c)) (charges b (event.Cash c)) q
    (shorts_fall d) (omega (arith, cash_cents b f c d)) h
done_bound b (call event.Close sheet) r f d h = close_bound b (close_taken b sheet r).early f h
done_bound b (call (event.PairOff x) sheet) r f d h =
    discharge_bound b (hands_out b (event.PairOff x)) (charges b (event.PairOff x)) x.quantity
    (shorts_fall d) (unfold charges in omega arith) h

pub new_bound : (opening : Opening) → Bound (new opening)
unfolding new
new_bound register = record { day = omega arith; units = omega arith; cents = omega arith }

-- What follows for each account

pub bound_small : (b : Book) → Bound b → b.past ≤ 512 → Balanced b.ledger → (k : ℕ) → Small b k
unfolding balance
bound_small b h past e k =
    let most : total b.ledger.credits ≤ 100000000000000000 = omega (arith, h.day, h.cents) in
    let credit : get_or b.ledger.credits k 0 ≤ 100000000000000000 = omega (arith, place_le b.ledger.credits k) in
    let debit : get_or b.ledger.debits k 0 ≤ 100000000000000000 = omega (arith, place_le b.ledger.debits k) in
    record { credit = credit; debit = debit; difference = sub_magnitude _ _ 100000000000000000 credit debit }

-- Where an invariant that the accepted calls keep gives what must be known of a book and of its discharges, no account of any history leaves the bound.
module _
    (Holds : Book → Type 0)
    (step : (b : Book) (c : Call) → refusal b c ≡ 0 → Holds b → Holds (done b (event_of c)))
    (bounding : (b : Book) → Holds b → Bounding b)
    (deals : (b : Book) (c : Call) → refusal b c ≡ 0 → Holds b → Dealt b (event_of c))
  where
    record Bounded (b : Book) : Type 0 where
      holds : Holds b
      bound : Bound b

    bounded_step : (b : Book) (c : Call) → refusal b c ≡ 0 → Bounded b → Bounded (done b (event_of c))
    bounded_step b c e h =
        record { holds = step b c e h.holds; bound = done_bound b c e (bounding b h.holds) (deals b c e h.holds) h.bound }

    accountable : (b : Book) → Holds b → Accountable b
    accountable b h = record { positions = (bounding b h).positions; awards = (bounding b h).awards }

    pub run_bound : (opening : Opening) (cs : List Call) → Holds (new opening) → Bound (run (new opening) cs)
    run_bound opening cs h =
        (run_keeps Bounded bounded_step (new opening) cs (record { holds = h; bound = new_bound opening })).bound

    pub accounts_small : (opening : Opening) (cs : List Call) → Holds (new opening) → (k : ℕ) → Small (run (new opening) cs) k
    accounts_small opening cs h k =
        let kept = run_kept Holds step accountable opening cs h in
        let few : (run (new opening) cs).past ≤ 512 = omega (arith, (bounding (run (new opening) cs) kept.holds).room) in
        bound_small (run (new opening) cs) (run_bound opening cs h) few kept.balanced k
