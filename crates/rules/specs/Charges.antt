-- Document 01, 'Cash settlement', 'Close' and 'Auction': fees, fines and the charge of a buy-in, in cents. Rates are arguments of the definitions.
use Rattle.std.specs.Prelude.{ℕ, suc, ◌+◌, ◌*◌, ◌/◌, min, max, ℤ, pos, negsuc, neg_ℤ, ◌*ℤ◌}
use Rattle.std.proofs.Math.IntN.{sub_ℕ}
use Rattle.rules.specs.declared.Amount.{Amount}
use Rattle.rules.specs.declared.Amount.TheVariants.{Debit, Credit}
use Rattle.rules.specs.Classes.{by_class}

-- "Fee and fine quotients round half up."
unfoldable pub rounded_half_up : ℕ → ℕ → ℕ
rounded_half_up value divisor = (2 * value + divisor) / (2 * divisor)

-- a quotient, "at least .. and at most .. cents"
unfoldable pub fee : ℕ → ℕ → ℕ → ℕ → ℕ
fee divisor least most value = min most (max least (rounded_half_up value divisor))

-- "The fee to account 0 is open times latest price over 40,000, at least 25,000 and at most 100,000 cents."
unfoldable pub cash_fee : ℕ → ℕ
cash_fee value = fee 40000 25000 100000 value

-- "each unconfirmed award .. costs its offerer value over 2,500, at least 100,000 cents, class 3 just 100,000"
unfoldable pub award_fine : ℕ → ℕ → ℕ
award_fine class value =
    let share = max 100000 (rounded_half_up value 2500) in
    by_class class share share 100000 0

-- "each due class 1 short costs its member value over 10,000"
unfoldable pub late_fine : ℕ → ℕ
late_fine value = rounded_half_up value 10000

-- "The seller is charged quantity times (award price minus the short's reference price)": in cents, below 0 where the charge is negative
abbrev pub buy_in_cents : ℕ → ℕ → ℕ → ℤ
buy_in_cents quantity price reference = pos quantity *ℤ sub_ℕ price reference

-- "a negative charge is a credit": the amount of so many cents, of which 0 is a debit
abbrev pub amount_of : ℤ → Amount
amount_of (pos n) = Debit n
amount_of (negsuc n) = Credit (suc n)

unfoldable pub buy_in_charge : ℕ → ℕ → ℕ → Amount
buy_in_charge quantity price reference = amount_of (buy_in_cents quantity price reference)

-- an amount as the paper writes it: a charge is above zero, a credit below
unfoldable pub in_cents : Amount → ℤ
in_cents (Debit n) = pos n
in_cents (Credit n) = neg_ℤ (pos n)
