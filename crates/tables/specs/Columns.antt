-- The latest price of a security is what stands at its place in both columns.
use Rattle.std.specs.Prelude.{ℕ, zero, suc, ◌-◌, ◌≡◌, length, get_or}
use Rattle.std.proofs.Common.{arith, ap, ◌∙◌}
use Rattle.laws.specs.Limits.{SECURITIES}
use Rattle.laws.specs.Asked.{Within}
use Rattle.laws.specs.Zips.{zip_at}
use Rattle.plain.specs.Book.{nth, no_price}
use Rattle.tables.specs.declared.Prices.{Prices}
use Rattle.tables.specs.Tables.{dated, prices}

pub price_named : (t : Prices) (s : ℕ) → length (prices t) ≡ SECURITIES → Within 1 SECURITIES s
    → nth no_price (prices t) s ≡ dated (get_or t.latest (s - 1) 0) (get_or t.days (s - 1) (record { 0 = 0 }))
unfolding prices
price_named t zero many known = absurd (omega (arith, known.above))
price_named t (suc k) many known =
    ap (λ (i : ℕ). get_or (prices t) i no_price) (omega arith)
    ∙ zip_at dated t.latest t.days (suc k - 1) 0 (record { 0 = 0 }) no_price (omega (arith, many, known.below))
