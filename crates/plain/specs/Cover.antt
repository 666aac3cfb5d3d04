-- Document 02, Slip 6, 'Cheapest cover': the ways to take from the offers of an auction, what each takes and costs, what its awards charge the seller, and
-- what is claimed of the awards. Nothing here says how awards are found.
use Rattle.std.specs.Prelude.{ℕ, suc, ◌+◌, ◌*◌, ◌≤◌, ◌≡◌, Bool, true, false, cond, length, drop, ltb}
use mathlib.Core.List.{List, [], ◌∷◌, ◌++◌, map, zip_with}
use Rattle.laws.specs.Lists.{All, filter, sum, each}
use Rattle.laws.specs.Asked.{within, Within}
use Rattle.laws.specs.Integers.{total}
use Rattle.laws.specs.Reordered.{Reordered}
use Rattle.events.specs.declared.Offer.{Offer}
use Rattle.events.specs.declared.Event.{Event}
use Rattle.events.specs.declared.Event.TheVariants as event
use Rattle.plain.specs.declared.Award.{Award}
use Rattle.plain.specs.Book.{Book, position_of, award_of}
use Rattle.plain.specs.Auction.{award_for}
use Rattle.plain.specs.Charging.{Charge, credit_of, debit_of, buy_in_charges}
use Rattle.plain.specs.Calls.{Call}
use Rattle.plain.specs.Histories.{event_of, next, charged}

-- Ways to take

-- what is taken of an offer, 0 where it is left alone
pub record Taking : Type 0 where
  pub offer : Offer
  pub quantity : ℕ

-- quantities as takings of offers: the first of the first, and so on
abbrev pub takings : List Offer → List ℕ → List Taking
takings offers quantities = zip_with (λ o q. record { offer = o; quantity = q }) offers quantities

-- a "way to take, from each offer, at most its quantity": a list of quantities, one for each offer in order of arrival
pub record Way (offers : List Offer) (quantities : List ℕ) : Type 0 where
  pub one_each : length quantities ≡ length offers
  pub fits : All (λ t. t.quantity ≤ t.offer.quantity) (takings offers quantities)

-- the cost of a way: the sum of quantity times offer price. Its total is the sum of its quantities
unfoldable pub cost : List Offer → List ℕ → ℕ
cost offers quantities = sum (λ t. t.quantity * t.offer.price) (takings offers quantities)

-- document 01, 'Auction': "Each offer taken makes one award"
unfoldable pub awards_by : List Taking → List Award
awards_by ts = map (λ t. award_for t.offer t.quantity) (filter (λ t. ltb 0 t.quantity) ts)

-- the units of awards, and what these cost at the awards' prices
abbrev pub units_of : List Award → ℕ
units_of awards = sum (λ a. a.quantity) awards

abbrev pub cost_of : List Award → ℕ
cost_of awards = sum (λ a. a.quantity * a.price) awards

-- awards out of the offers of an auction, for a short of which so much is open
pub record Cheapest (left : ℕ) (offers : List Offer) (awards : List Award) : Type 0 where
  -- the awards are a way to take, within the short's open quantity; they stand in some order
  pub way : List ℕ
  pub is_way : Way offers way
  pub made : Reordered awards (awards_by (takings offers way))
  pub fits : units_of awards ≤ left
  -- what they take and cost in all is what it takes and costs
  pub same_units : units_of awards ≡ total way
  pub same_cost : cost_of awards ≡ cost offers way
  -- "every other way to take, from each offer, at most its quantity, with the same total, costs at least as much"
  pub cheapest : (other : List ℕ) → Way offers other → total other ≡ units_of awards → cost_of awards ≤ cost offers other
  -- "No way takes more, within the short's open quantity."
  pub most : (other : List ℕ) → Way offers other → total other ≤ left → total other ≤ units_of awards

-- the awards that a book has beyond those of an earlier one of the same day
abbrev pub added : Book → Book → List Award
added before after = drop (length before.awards) after.awards

-- an award call for short n, from one book to the next, that reports a quantity
pub record Covered (before after : Book) (n quantity : ℕ) : Type 0 where
  pub kept : after.awards ≡ before.awards ++ added before after
  pub reported : quantity ≡ units_of (added before after)
  pub cheapest : Cheapest (position_of before n).unsettled before.auction.offers (added before after)

-- In cents

-- the charges of awards, each by the rule of a buy-in
abbrev pub buy_ins : Book → List Award → List Charge
buy_ins b awards = each (buy_in_charges b) awards

-- by some charges an account pays, its debits less its credits, at most what it pays by others
abbrev pub PaysAtMost : ℕ → List Charge → List Charge → Type 0
PaysAtMost account charges others = debit_of account charges + credit_of account others ≤ debit_of account others + credit_of account charges

-- "Sellers pay the auction's result": the charges of awards for short n, all of them confirmed
pub record PaysLeast (b : Book) (n : ℕ) (awards : List Award) (charges : List Charge) : Type 0 where
  -- debits less credits, "quantity times (award price minus the short's reference price)" in all
  pub cents : debit_of (position_of b n).member charges + units_of awards * (position_of b n).reference
      ≡ cost_of awards + credit_of (position_of b n).member charges
  -- the awards of every other way with the same total would have charged the seller at least as much
  pub least : (other : List ℕ) → Way b.auction.offers other → total other ≡ units_of awards
      → PaysAtMost (position_of b n).member charges (buy_ins b (awards_by (takings b.auction.offers other)))

-- whether an event confirms one of so many awards after the first ones
abbrev pub confirms_one_of : ℕ → ℕ → Event → Bool
confirms_one_of first many (event.Trade t) = false
confirms_one_of first many (event.Price p) = false
confirms_one_of first many (event.Delivery d) = false
confirms_one_of first many (event.Attempt a) = false
confirms_one_of first many (event.Offer o) = false
confirms_one_of first many (event.Award a) = false
confirms_one_of first many (event.Confirm c) = within (suc first) (first + many) c.award
confirms_one_of first many (event.Cash c) = false
confirms_one_of first many event.Close = false
confirms_one_of first many (event.PairOff x) = false

-- the charges that calls on a book booked by confirming these awards
unfoldable pub confirmation_charges : ℕ → ℕ → Book → List Call → List Charge
confirmation_charges first many b [] = []
confirmation_charges first many b (c ∷ cs) =
    let booked = charged b c in
    cond (confirms_one_of first many (event_of c)) booked [] ++ confirmation_charges first many (next b c) cs

-- these awards are confirmed in a book
abbrev pub AllConfirmed : ℕ → ℕ → Book → Type 0
AllConfirmed first many b = (n : ℕ) → Within (suc first) (first + many) n → (award_of b n).confirmed ≡ true

-- the same of the awards that an award call made, from one book to the next: later calls of the day, by which the last book came about, confirmed
-- them all; and what their confirmations charged
pub record Confirmed (before after last : Book) : Type 0 where
  pub today : last.day ≡ before.day
  pub all : AllConfirmed (length before.awards) (length (added before after)) last

abbrev pub confirmations_of : Book → Book → List Call → List Charge
confirmations_of before after later = confirmation_charges (length before.awards) (length (added before after)) after later
