-- Document 01, 'Auction': the awards that end an auction, and what is counted and confirmed of today's awards.
use Rattle.std.specs.Prelude.{ℕ, ◌+◌, ◌≤◌, ◌≡◌, List, [], ◌++◌, take}
use Rattle.laws.specs.Limits.{AWARDS, MOST_QUANTITY}
use Rattle.laws.specs.Lists.{All, sum, number}
use Rattle.plain.specs.declared.Award.{Award}
use Rattle.plain.specs.Auction.{by_price, awarded, confirmed_award}
use Rattle.tables.specs.declared.Auction.{Auction}
use Rattle.tables.specs.Tables.{Awards, AuctionFits, AwardsFit, awards}

-- an auction whose every offer has room among today's awards
pub record Awardable (auction : Auction) (before : Awards) : Type 0 where
  pub auction_fits : AuctionFits auction
  pub awards_fit : AwardsFit before
  pub room : before.count + auction.count ≤ AWARDS

-- the awards of an auction out of the open quantity
abbrev pub awarded_in : Auction → ℕ → List Award
awarded_in auction unsettled = awarded unsettled (by_price [] (take auction.count auction.offers))

pub record Awarded (auction : Auction) (unsettled : ℕ) (before after : Awards) (awardedUnits : ℕ) : Type 0 where
  pub added : awards after ≡ awards before ++ awarded_in auction unsettled
  pub total : awardedUnits ≡ sum (λ x. x.quantity) (awarded_in auction unsettled)
  pub fit : AwardsFit after

-- an offer is of 1,000,000 units at most, and so is an award
pub record Countable (today : Awards) : Type 0 where
  pub fit : AwardsFit today
  pub small : All (λ a. a.quantity ≤ MOST_QUANTITY) (awards today)

-- "awards are numbered from 1 within the day"
pub record Confirmable (today : Awards) (n : ℕ) : Type 0 where
  pub fit : AwardsFit today
  pub low : 1 ≤ n
  pub high : n ≤ today.count

pub record Confirmed (before : Awards) (n : ℕ) (r : Awards) : Type 0 where
  pub marked : awards r ≡ number (confirmed_award n) 1 (awards before)
  pub fit : AwardsFit r
