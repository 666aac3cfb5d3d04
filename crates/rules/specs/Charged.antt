-- What the definitions of prices, fees and charges say of every value.
use Rattle.std.specs.Prelude.{ℕ, zero, suc, ◌+◌, ◌-◌, ◌*◌, ◌≤◌, ◌<◌, ◌≡◌, refl, List, [], ◌∷◌, cond, ltb, leb, ℤ, pos, negsuc, neg_ℤ}
use Rattle.std.proofs.Common.{mul-add, arith, sym, ap, ◌∙◌, ltb-true, ltb-false, lt-ltb, le-ltb, le-leb}
use Rattle.std.proofs.Math.IntN.{sub_ℕ}
use Rattle.std.proofs.lemmas.Bool.{lt-leb}
use Rattle.laws.specs.Asked.{Said, passed, failed, ask}
use Rattle.laws.specs.Lists.{highest}
use Rattle.rules.specs.declared.Amount.TheVariants.{Debit, Credit}
use Rattle.rules.specs.Prices.{cash_price}
use Rattle.rules.specs.Charges.{rounded_half_up, fee, cash_fee, buy_in_cents, amount_of, buy_in_charge, in_cents}

-- the longs of a cash settlement count by the highest of their reference prices alone
pub by_highest_long : (class short latest : ℕ) (longs : List ℕ) → cash_price class short longs latest ≡ cash_price class short (highest longs ∷ []) latest
unfolding cash_price
by_highest_long class short latest longs = omega arith

-- "above 4,000,000,000: 100,000"
pub fee_above_lem : (value : ℕ) → 4000000000 < value → cash_fee value ≡ 100000
unfolding cash_fee fee rounded_half_up
fee_above_lem value h = omega arith

-- an amount is worth the cents that it is of
pub in_cents_lem : (cents : ℤ) → in_cents (amount_of cents) ≡ cents
unfolding in_cents
in_cents_lem (pos n) = refl
in_cents_lem (negsuc n) = refl

-- a difference of two numbers that are apart by m
sub_above : (a m : ℕ) → sub_ℕ (a + m) a ≡ pos m
sub_above a m = simp (le-ltb (a + m) a (omega arith)) (ap pos (omega arith))

sub_below : (a m : ℕ) → sub_ℕ a (a + m) ≡ neg_ℤ (pos m)
sub_below a zero = sub_below_none
  where
    sub_below_none : sub_ℕ a (a + 0) ≡ pos 0
    sub_below_none = simp (le-ltb a (a + 0) (omega arith)) (ap pos (omega arith))
sub_below a (suc m) = simp (lt-ltb a (a + suc m) (omega arith)) (ap negsuc (omega arith))

-- the cents of a buy-in are the difference of two values: that of the units bought, and theirs at the reference price
pub buy_in_values : (quantity price reference : ℕ) → buy_in_cents quantity price reference ≡ sub_ℕ (quantity * price) (quantity * reference)
buy_in_values q p r = go (ask (ltb p r))
  where
    go : Said (ltb p r) → buy_in_cents q p r ≡ sub_ℕ (q * p) (q * r)
    go (passed e) =
        let l : p < r = ltb-true p r e in
        let n : ℕ = r - suc p in
        let apart : r ≡ p + suc n = omega arith in
        rw e (sym (ap (λ (k : ℕ). sub_ℕ (q * p) k) (ap (λ (k : ℕ). q * k) apart ∙ mul-add q p (suc n)) ∙ sub_below (q * p) (q * suc n)))
    go (failed e) =
        let l : r ≤ p = ltb-false p r e in
        let apart : p ≡ r + (p - r) = omega arith in
        rw e (sym (ap (λ (k : ℕ). sub_ℕ k (q * r)) (ap (λ (k : ℕ). q * k) apart ∙ mul-add q r (p - r)) ∙ sub_above (q * r) (q * (p - r))))

-- the amount of a difference
difference : (a b : ℕ) → amount_of (sub_ℕ a b) ≡ cond (leb b a) (Debit (a - b)) (Credit (b - a))
difference a b = go (ask (ltb a b))
  where
    go : Said (ltb a b) → amount_of (sub_ℕ a b) ≡ cond (leb b a) (Debit (a - b)) (Credit (b - a))
    go (passed e) =
        let l : a < b = ltb-true a b e in
        simp (e, lt-leb b a l) (ap Credit (omega arith))
    go (failed e) = simp (e, le-leb b a (ltb-false a b e))

pub buy_in_amount : (quantity price reference : ℕ)
    → buy_in_charge quantity price reference ≡ cond (leb (quantity * reference) (quantity * price)) (Debit (quantity * price - quantity * reference)) (Credit (quantity * reference - quantity * price))
unfolding buy_in_charge
buy_in_amount q p r = ap amount_of (buy_in_values q p r) ∙ difference (q * p) (q * r)
