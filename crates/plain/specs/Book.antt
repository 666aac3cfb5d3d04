-- Document 01, 'The plain book': what the plain book keeps, and the book as it opens.
use Rattle.std.specs.Prelude.{ℕ, List, [], ◌∷◌, Bool, false, cond, length, get_or, replicate, eqb, None, Option, Some}
use Rattle.laws.specs.Limits.{ACCOUNTS, SECURITIES}
use Rattle.laws.specs.Asked.{within}
use Rattle.register.specs.Register.{register_read}
use Rattle.events.specs.declared.Trade.{Trade}
use Rattle.events.specs.declared.Offer.{Offer}
use Rattle.plain.specs.declared.Opening.{Opening}
use Rattle.plain.specs.declared.Latest.{Latest}
use Rattle.plain.specs.declared.Kind.TheVariants.{Own}
use Rattle.plain.specs.declared.Position.{Position}
use Rattle.plain.specs.declared.Award.{Award}
use Rattle.plain.specs.declared.Ledger.{Ledger}

-- "the book's single auction, on one short", its ceiling, and its offers in order of arrival. Position 0: no auction runs.
pub record Auction : Type 0 where
  pub position : ℕ
  pub ceiling : ℕ
  pub offers : List Offer

-- "It keeps register, day, trades, prices, positions, auction, awards, attempt marks, accounts."
pub record Book : Type 0 where
  -- what the book was opened with, its register
  pub opening : Opening
  pub day : ℕ
  -- how many trades of earlier days it holds, and the trades of today
  pub past : ℕ
  pub trades : List Trade
  -- the latest price of each security and the day on which it was given, price 0 where it never had one
  pub prices : List Latest
  pub positions : List Position
  pub auction : Auction
  -- the awards of today, in order
  pub awards : List Award
  -- the positions that an attempt was opened on today, in order
  pub marks : List ℕ
  pub ledger : Ledger

abbrev pub no_auction : Auction
no_auction = record { position = 0; ceiling = 0; offers = [] }

-- what the bytes of a register open a book with
abbrev pub opening_read : List ℕ → Opening
opening_read bytes = record { register = (register_read bytes).register }

-- the day on which a book opens: "A new book is at business day 1"
abbrev pub first_day : Opening → ℕ
first_day opening = 1

abbrev pub no_price : Latest
no_price = record { price = 0; day = record { 0 = 0 } }

-- a price that was given on a day
abbrev pub given_on : ℕ → ℕ → Latest
given_on day price = record { price = price; day = record { 0 = day } }

-- "Accounts start at 0 cents"; "A new book is at business day 1 and has no trade, position or price."
unfoldable pub new : Opening → Book
new opening =
    record {
      opening = opening;
      day = first_day opening;
      past = 0;
      trades = [];
      prices = replicate SECURITIES no_price;
      positions = [];
      auction = no_auction;
      awards = [];
      marks = [];
      ledger = record { credits = replicate ACCOUNTS 0; debits = replicate ACCOUNTS 0 };
    }

-- what stands where no position or award is
abbrev pub no_position : Position
no_position =
    record {
      member = 0;
      kind = Own;
      security = 0;
      short = false;
      settlement = record { 0 = 0 };
      reference = 0;
      netted = 0;
      delivered = 0;
      bought = 0;
      cash = 0;
      paired = 0;
      unsettled = 0;
    }

abbrev pub no_award : Award
no_award = record { position = 0; offerer = 0; quantity = 0; price = 0; confirmed = false }

-- "Positions are numbered from 1", "awards are numbered from 1", and so are securities: number n of a list. Number 0 names nothing
abbrev pub nth : {A : Type 0} → A → List A → ℕ → A
nth none list n = get_or (none ∷ list) n none

-- number n of a list is there
abbrev pub there : {A : Type 0} → List A → ℕ → Bool
there list n = within 1 (length list) n

abbrev pub position_of : Book → ℕ → Position
position_of b n = nth no_position b.positions n

abbrev pub award_of : Book → ℕ → Award
award_of b n = nth no_award b.awards n

-- the class of a security, and its latest price, 0 where it never had one
abbrev pub class_of : Book → ℕ → ℕ
class_of b security = nth 0 b.opening.register.classes security

abbrev pub latest_of : Book → ℕ → ℕ
latest_of b security = (nth no_price b.prices security).price

-- document 02, Slip 3: "The lookup of the latest price shall also tell the day it was given". No price that was given is 0 (13)
abbrev pub looked_up : Latest → Option Latest
looked_up latest = cond (eqb latest.price 0) None (Some latest)

abbrev pub latest_price : Book → ℕ → Option Latest
latest_price b security = looked_up (nth no_price b.prices security)

-- the price that a lookup tells, 0 where none was given
abbrev pub price_in : Option Latest → ℕ
price_in None = 0
price_in (Some latest) = latest.price
