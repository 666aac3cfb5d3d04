-- Document 01, 'Auction' and 'Cash settlement', and document 02, Slip 4: the prices that are taken from a security's latest price. A number that is
-- no class has price 0.
use Rattle.std.specs.Prelude.{ℕ, ◌+◌, ◌*◌, ◌/◌, List, ◌∷◌}
use Rattle.laws.specs.Lists.{highest}
use Rattle.rules.specs.Classes.{by_class}

-- "its ceiling comes from the latest price then: twice that price, or for class 3, 103 times it over 100, rounded down"
unfoldable pub ceiling : ℕ → ℕ → ℕ
ceiling class latest = by_class class (2 * latest) (2 * latest) (103 * latest / 100) 0

-- "the latest price doubled (class 3: plus 300 cents)"
unfoldable pub raised : ℕ → ℕ → ℕ
raised class latest = by_class class (2 * latest) (2 * latest) (latest + 300) 0

-- "the highest among the short's reference price, the latest price doubled (class 3: plus 300 cents) and the reference prices of all longs in its pieces":
-- the terms of the rule, and the price of one unit
abbrev pub cash_terms : ℕ → ℕ → List ℕ → ℕ → List ℕ
cash_terms class short longs latest = short ∷ raised class latest ∷ longs

unfoldable pub cash_price : ℕ → ℕ → List ℕ → ℕ → ℕ
cash_price class short longs latest = highest (cash_terms class short longs latest)
