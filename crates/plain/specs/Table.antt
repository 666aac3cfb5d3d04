-- The starred lines of document 01, 'Edges and a squeeze', the player's example, and edges of document 02: one table of values by the definitions
-- and values expected.
-- Every row holds, by computation.
use Rattle.std.specs.Prelude.{ℕ, ◌+◌, ◌≡◌, refl, true, false, replicate, pos, neg_ℤ, None, Some}
use Rattle.std.proofs.Common.{arith}
use mathlib.Core.List.{List, [], ◌∷◌, ◌++◌, map, zip_with}
use Rattle.laws.specs.Limits.{ACCOUNTS}
use Rattle.laws.specs.Lists.{only, range}
use Rattle.rules.specs.declared.Step.TheVariants as step
use Rattle.rules.specs.Windows.{share_step, recurring_step, step_on}
use Rattle.rules.specs.Prices.{ceiling, raised, cash_price}
use Rattle.rules.specs.Charged.{fee_above_lem}
use Rattle.rules.specs.Charges.{rounded_half_up, fee, cash_fee, award_fine, late_fine, buy_in_charge, in_cents}
use Rattle.register.specs.Isin.{isin}
use Rattle.register.specs.Register.{register_read}
use Rattle.register.specs.Register as check
use Rattle.plain.specs.declared.Position.{Position}
use Rattle.plain.specs.declared.Award.{Award}
use Rattle.plain.specs.declared.Piece.{Piece}
use Rattle.plain.specs.declared.Manner.{Manner}
use Rattle.plain.specs.declared.Manner.TheVariants as manner
use Rattle.plain.specs.Book.{Book, given_on, latest_price}
use Rattle.plain.specs.Netting.{kind_number}
use Rattle.plain.specs.Histories.{run, handed, all_charges, refusals, quantities, balance, computing}
use Rattle.plain.specs.Cover.{cost}
use Rattle.plain.specs.Worked.{xx, one_share_bytes, one_share, two_shares_bytes, two_shares, squeeze, example, two_days, old_prices, all_delivered, two_longs, four_longs, both_kinds, failing_by_kind, auction_of, award_of, one_price_twice, last_in_part, too_few_offers, paired_off, paired_beside_awards, freed_by_pair_off}

-- a row: a value by the definitions, and the value expected
pub record Row : Type 1 where
  pub of : Type 0
  pub value : of
  pub expected : of

infix 20 ◌is◌
abbrev ◌is◌ : {A : Type 0} → A → A → Row
◌is◌ {A} v e = record { of = A; value = v; expected = e }

abbrev Holds : List Row → Type 0
Holds [] = Unit {0}
Holds (r ∷ rs) = (r.value ≡ r.expected) × Holds rs

abbrev piece : ℕ → ℕ → ℕ → Manner → ℕ → Piece
piece short long quantity manner cents =
    record { short = short; long = long; quantity = quantity; manner = manner; cents = cents }

-- an award's offerer, quantity and price
abbrev award_line : Award → List ℕ
award_line a = a.offerer ∷ a.quantity ∷ a.price ∷ []

-- the figures of a position's line: netted, delivered, bought in, cash, paired, open
abbrev figures : Position → List ℕ
figures p = p.netted ∷ p.delivered ∷ p.bought ∷ p.cash ∷ p.paired ∷ p.unsettled ∷ []

-- what netting says of a position: its member, the number of its kind, its security, 1 for a short, netted, reference price
abbrev holding : Position → List ℕ
holding p = p.member ∷ kind_number p.kind ∷ p.security ∷ only p.short 1 ∷ p.netted ∷ p.reference ∷ []

abbrev settled : Book
settled = run one_share squeeze

abbrev delivered : Book
delivered = run one_share example

-- the fee on each value above 4,000,000,000, by how much more it is than the least of them
abbrev fee_above : ℕ → ℕ
fee_above more = cash_fee (4000000001 + more)

pub table : List Row
table =
    -- "Fee on value 1,000,019,999: 25,000; 1,000,020,000: 25,001; above 4,000,000,000: 100,000."
    (cash_fee 1000019999 is 25000)
    ∷ (cash_fee 1000020000 is 25001)
    ∷ (cash_fee 4000000001 is 100000)
    ∷ (cash_fee 4000020000 is 100000)
    ∷ (fee_above is (λ more. 100000))
    -- "Buy-in fine on 250,001,249: 100,000; 250,001,250: 100,001."
    ∷ (award_fine 1 250001249 is 100000)
    ∷ (award_fine 1 250001250 is 100001)
    -- "Late fine on 4,999: 0; 5,000: 1."
    ∷ (late_fine 4999 is 0)
    ∷ (late_fine 5000 is 1)
    -- "Ceiling at price 101: 202; class 3: 104."
    ∷ (ceiling 1 101 is 202)
    ∷ (ceiling 3 101 is 104)
    -- "Class 3 at 20,000: cash price 20,300, not 20,600."
    ∷ (cash_price 3 20000 (20000 ∷ []) 20000 is 20300)
    -- "Class 1 r 4, 5, 7, 8: none, attempt, attempt, cash. Class 2 r 26, 27, 28, 30, 36, 37: none, attempt, none, cash, cash, attempt."
    ∷ (map (step_on 1) (4 ∷ 5 ∷ 7 ∷ 8 ∷ []) is (step.Nothing ∷ step.Attempt ∷ step.Attempt ∷ step.Cash ∷ []))
    ∷ (map (step_on 2) (26 ∷ 27 ∷ 28 ∷ 30 ∷ 36 ∷ 37 ∷ []) is (step.Nothing ∷ step.Attempt ∷ step.Nothing ∷ step.Cash ∷ step.Cash ∷ step.Attempt ∷ []))
    -- "XX0000000002 passes, XX0000000003 doesn't."
    ∷ (isin (xx 50) is true)
    ∷ (isin (xx 51) is false)
    -- the worked books open on a register that passes
    ∷ ((register_read one_share_bytes).number is 0)
    ∷ ((register_read two_shares_bytes).number is 0)
    -- "30 bought in at 1,190 against 1,200: charge -300."
    ∷ (in_cents (buy_in_charge 30 1190 1200) is neg_ℤ (pos 300))
    -- "Squeeze, class 1": the refusal 17 of day 2, the quantities, the pieces, and "Accounts 0 to 4"
    ∷ (refusals one_share squeeze is (replicate 4 0 ++ 17 ∷ replicate 18 0))
    ∷ (quantities one_share squeeze is (100 ∷ 50 ∷ 0 ∷ 0 ∷ 0 ∷ 0 ∷ 30 ∷ replicate 7 0 ++ 40 ∷ 30 ∷ 70 ∷ 30 ∷ replicate 4 0 ++ 90 ∷ []))
    ∷ (handed one_share squeeze
    is (piece 1 2 30 manner.Delivered 0 ∷ piece 1 2 30 manner.BoughtIn 0 ∷ piece 1 2 40 manner.Cash 88000 ∷ piece 1 3 50 manner.Cash 110000 ∷ []))
    ∷ (map (balance settled) (range 0 5) is (pos 126595 ∷ neg_ℤ (pos 224595) ∷ pos 88000 ∷ pos 110000 ∷ neg_ℤ (pos 100000) ∷ []))
    -- the player's example: its lines `e`, `p` and `s`, and no account's line
    ∷ (refusals one_share example is (0 ∷ 0 ∷ 0 ∷ 0 ∷ []))
    ∷ (quantities one_share example is (100 ∷ 0 ∷ 0 ∷ 100 ∷ []))
    ∷ (handed one_share example is (piece 1 2 100 manner.Delivered 0 ∷ []))
    ∷ (map figures delivered.positions is ((100 ∷ 100 ∷ 0 ∷ 0 ∷ 0 ∷ 0 ∷ []) ∷ (100 ∷ 100 ∷ 0 ∷ 0 ∷ 0 ∷ 0 ∷ []) ∷ []))
    ∷ (map (balance delivered) (range 0 ACCOUNTS) is replicate ACCOUNTS (pos 0))
    -- "lowest S first, then lowest number", over two delivery days
    ∷ (refusals one_share two_days is replicate 7 0)
    ∷ (handed one_share two_days
    is (piece 3 2 50 manner.Delivered 0 ∷ piece 1 2 50 manner.Delivered 0 ∷ piece 1 4 50 manner.Delivered 0 ∷ []))
    -- "It refuses with 32, after 19, an attempt or cash whose latest price was given before today.": 19 without any price, 32 with one of the
    -- day before. "Closes go on with the latest.": the late fines of 100 units at 1,100, twice, and at 1,200, twice
    ∷ (refusals one_share old_prices is (replicate 8 0 ++ 19 ∷ 0 ∷ 0 ∷ 32 ∷ 0 ∷ 0 ∷ 0 ∷ 32 ∷ 0 ∷ []))
    ∷ (map (λ c. c.cents) (all_charges one_share old_prices) is (11 ∷ 11 ∷ 12 ∷ 12 ∷ []))
    -- "The lookup of the latest price shall also tell the day it was given"
    ∷ (latest_price one_share 1 is None)
    ∷ (latest_price (run one_share old_prices) 1 is Some (given_on 10 1200))
    -- nothing is open: 32 comes before 24
    ∷ (refusals one_share all_delivered is (replicate 13 0 ++ 32 ∷ 0 ∷ 24 ∷ []))
    -- "All pieces of one cash settlement now use the highest among the short's reference price, the latest price doubled (class 3: plus 300 cents) and
    -- the reference prices of all longs in its pieces.": two longs with the references 1,000 and 3,000, both at 3,000, where the latest price
    -- doubled is 2,200; the fee is as it was
    ∷ (refusals one_share two_longs is replicate 15 0)
    ∷ (handed one_share two_longs
    is (piece 4 2 50 manner.Delivered 0 ∷ piece 1 2 10 manner.Cash 30000 ∷ piece 1 3 50 manner.Cash 150000 ∷ []))
    ∷ (map (balance (run one_share two_longs)) (range 0 5) is (pos 25000 ∷ neg_ℤ (pos 205000) ∷ pos 30000 ∷ pos 150000 ∷ pos 0 ∷ []))
    -- three longs in the pieces, the middle one with the highest reference; a due long without a share does not count
    ∷ (refusals one_share four_longs is replicate 19 0)
    ∷ (handed one_share four_longs
    is (piece 4 2 50 manner.Delivered 0
    ∷ piece 5 2 5 manner.Delivered 0
    ∷ piece 1 2 5 manner.Cash 15000
    ∷ piece 1 3 50 manner.Cash 150000
    ∷ piece 1 6 5 manner.Cash 15000
    ∷ piece 7 6 5 manner.Cash 25000
    ∷ piece 7 8 15 manner.Cash 75000
    ∷ []))
    -- "Netting is by member, kind and security, positions are ordered so": the reference price within that group; dealing does not look at kinds
    ∷ (map holding (run two_shares both_kinds).positions
    is ((1 ∷ 0 ∷ 1 ∷ 1 ∷ 10 ∷ 1500 ∷ [])
    ∷ (1 ∷ 1 ∷ 1 ∷ 1 ∷ 10 ∷ 2000 ∷ [])
    ∷ (1 ∷ 1 ∷ 2 ∷ 1 ∷ 30 ∷ 1000 ∷ [])
    ∷ (2 ∷ 0 ∷ 2 ∷ 0 ∷ 30 ∷ 1000 ∷ [])
    ∷ (2 ∷ 1 ∷ 1 ∷ 0 ∷ 20 ∷ 1500 ∷ [])
    ∷ []))
    ∷ (handed two_shares both_kinds is (piece 1 5 10 manner.Delivered 0 ∷ piece 2 5 10 manner.Delivered 0 ∷ []))
    -- "Refusal 14 now needs equal kinds too"; "It refuses with 33, after 14, a trade with another kind byte."
    ∷ (refusals two_shares both_kinds is (0 ∷ 0 ∷ 0 ∷ 14 ∷ 14 ∷ 33 ∷ 33 ∷ 33 ∷ 0 ∷ 0 ∷ 0 ∷ 0 ∷ []))
    -- "A member failing in either kind may not offer."
    ∷ (refusals one_share failing_by_kind is (replicate 11 0 ++ 21 ∷ 21 ∷ 0 ∷ []))
    -- "every other way to take, from each offer, at most its quantity, with the same total, costs at least as much": of two offers at one price the
    -- earlier is taken first. The way that is taken costs 64,500 for 60 units; so does one that takes more of the later of the two; one that takes less of
    -- the cheapest costs 69,000
    ∷ (map award_line (run one_share (award_of one_price_twice [])).awards is ((6 ∷ 25 ∷ 900 ∷ []) ∷ (4 ∷ 20 ∷ 1200 ∷ []) ∷ (5 ∷ 15 ∷ 1200 ∷ []) ∷ []))
    ∷ (map (cost (run one_share (auction_of one_price_twice)).auction.offers) ((20 ∷ 15 ∷ 25 ∷ []) ∷ (5 ∷ 30 ∷ 25 ∷ []) ∷ (20 ∷ 30 ∷ 10 ∷ []) ∷ [])
    is (64500 ∷ 64500 ∷ 69000 ∷ []))
    -- all confirmed: a credit of 2,500 for 25 units at 900 against 1,000, charges of 4,000 and 3,000; 64,500 less 60 units at 1,000
    ∷ (map (λ c. c.cents) (all_charges one_share (award_of one_price_twice (1 ∷ 2 ∷ 3 ∷ []))) is (2500 ∷ 4000 ∷ 3000 ∷ []))
    ∷ (map (balance (run one_share (award_of one_price_twice (1 ∷ 2 ∷ 3 ∷ [])))) (range 0 2) is (pos 4500 ∷ neg_ℤ (pos 4500) ∷ []))
    -- the last one in part, and an offer that finds nothing left
    ∷ (map award_line (run one_share (award_of last_in_part [])).awards is ((6 ∷ 40 ∷ 1050 ∷ []) ∷ (4 ∷ 20 ∷ 1100 ∷ []) ∷ []))
    -- "No way takes more, within the short's open quantity.": too few offers, all of them taken whole; confirmed, they leave 30 open
    ∷ (map award_line (run one_share (award_of too_few_offers [])).awards is ((5 ∷ 20 ∷ 1100 ∷ []) ∷ (4 ∷ 10 ∷ 1300 ∷ []) ∷ []))
    ∷ (map figures (run one_share (award_of too_few_offers (1 ∷ 2 ∷ []))).positions
    is ((60 ∷ 0 ∷ 30 ∷ 0 ∷ 0 ∷ 30 ∷ []) ∷ (60 ∷ 0 ∷ 30 ∷ 0 ∷ 0 ∷ 30 ∷ []) ∷ []))
    -- no offer: a total of 0
    ∷ (map award_line (run one_share (award_of [] [])).awards is [])
    ∷ (refusals one_share (award_of [] []) is replicate 11 0)
    ∷ (quantities one_share (award_of [] []) is (60 ∷ replicate 10 0))
    -- "It refuses with 34, after 17, a second position that is not a due long of the same member, kind and security.": not due (and 17, where the short is
    -- not due either), the clients', another member's, a short, the same; 16 for a long as the first; 11 for the second, by its whole number, and for either
    -- before 12; 12 before 16; 24 for the long's open quantity
    ∷ (refusals one_share paired_off
    is (replicate 5 0 ++ 34 ∷ 17 ∷ 0 ∷ 34 ∷ 34 ∷ 34 ∷ 34 ∷ 16 ∷ 11 ∷ 11 ∷ 11 ∷ 12 ∷ 12 ∷ 24 ∷ 0 ∷ 24 ∷ 0 ∷ 0 ∷ []))
    ∷ (quantities one_share paired_off is (100 ∷ 0 ∷ 60 ∷ 10 ∷ replicate 15 0 ++ 40 ∷ 0 ∷ 70 ∷ 60 ∷ []))
    -- "one piece of manner paired and 0 cents"; the deliveries after it find 20 open of position 3
    ∷ (handed one_share paired_off
    is (piece 1 3 40 manner.Paired 0
    ∷ piece 5 2 70 manner.Delivered 0
    ∷ piece 1 2 30 manner.Delivered 0
    ∷ piece 1 3 20 manner.Delivered 0
    ∷ piece 1 4 10 manner.Delivered 0
    ∷ []))
    -- "Both fall by the quantity", "a paired figure before open"
    ∷ (map figures (run one_share paired_off).positions
    is ((100 ∷ 60 ∷ 0 ∷ 0 ∷ 40 ∷ 0 ∷ [])
    ∷ (100 ∷ 100 ∷ 0 ∷ 0 ∷ 0 ∷ 0 ∷ [])
    ∷ (60 ∷ 20 ∷ 0 ∷ 0 ∷ 40 ∷ 0 ∷ [])
    ∷ (10 ∷ 10 ∷ 0 ∷ 0 ∷ 0 ∷ 0 ∷ [])
    ∷ (70 ∷ 70 ∷ 0 ∷ 0 ∷ 0 ∷ 0 ∷ [])
    ∷ []))
    ∷ (map (balance (run one_share paired_off)) (range 0 ACCOUNTS) is replicate ACCOUNTS (pos 0))
    -- 18 while the auction runs on the short, and 34 before it; 24 by what is free beside an award. The charges are those of the confirmation, 70 at 1,100 against
    -- 1,000, and of the close: position 1 has nothing open, position 4 is fined for 60 at 1,100
    ∷ (refusals one_share paired_beside_awards is (replicate 11 0 ++ 18 ∷ 34 ∷ 0 ∷ 0 ∷ 24 ∷ 0 ∷ 0 ∷ 0 ∷ []))
    ∷ (map figures (run one_share paired_beside_awards).positions
    is ((100 ∷ 0 ∷ 70 ∷ 0 ∷ 30 ∷ 0 ∷ [])
    ∷ (100 ∷ 0 ∷ 70 ∷ 0 ∷ 0 ∷ 30 ∷ [])
    ∷ (60 ∷ 0 ∷ 0 ∷ 0 ∷ 30 ∷ 30 ∷ [])
    ∷ (60 ∷ 0 ∷ 0 ∷ 0 ∷ 0 ∷ 60 ∷ [])
    ∷ []))
    ∷ (map (λ c. c.cents) (all_charges one_share paired_beside_awards) is (7000 ∷ 0 ∷ 7 ∷ []))
    -- a member whose late short is set off as a whole is no longer failing
    ∷ (refusals one_share freed_by_pair_off is (replicate 12 0 ++ 21 ∷ 0 ∷ 0 ∷ []))
    ∷ []

pub every_row : Holds table
unfolding table share_step recurring_step step_on ceiling raised cash_price rounded_half_up fee cash_fee award_fine late_fine buy_in_charge in_cents check.computing computing cost zip_with
every_row = (refl, (refl, (refl, (refl, (λ i more. fee_above_lem (4000000001 + more) (omega arith) i, (refl, (refl, (refl, (refl, (refl, (refl, (refl, (refl, (refl, (refl, (refl, (refl, (refl, (refl, (refl, (refl, (refl, (refl, (refl, (refl, (refl, (refl, (refl, (refl, (refl, (refl, (refl, (refl, (refl, (refl, (refl, (refl, (refl, (refl, (refl, (refl, (refl, (refl, (refl, (refl, (refl, (refl, (refl, (refl, (refl, (refl, (refl, (refl, (refl, (refl, (refl, (refl, (refl, (refl, (refl, (refl, (refl, (refl, tt)))))))))))))))))))))))))))))))))))))))))))))))))))))))))))))))
