-- What holds of every book that a history reaches from a new one: `Sound`, which the machine's book rests on, and what the accounts add to it.
use Rattle.std.specs.Prelude.{ℕ, suc, ◌+◌, ◌-◌, ◌*◌, ◌≤◌, ◌<◌, ◌≡◌, ◌≢◌, List, Bool, true, length, get_or, ltb, eqb}
use Rattle.laws.specs.Limits.{ACCOUNTS, SECURITIES, TRADES, ATTEMPTS, OFFERS, LAST_DAY, MOST_PRICE, MOST_QUANTITY}
use Rattle.laws.specs.Lists.{All, only, some, sum}
use Rattle.laws.specs.Asked.{Within}
use Rattle.laws.specs.Integers.{total, magnitude}
use Rattle.rules.specs.Windows.{step_on, step_kind}
use Rattle.register.specs.declared.Register.{Register}
use Rattle.plain.specs.declared.Latest.{Latest}
use Rattle.plain.specs.declared.Position.{Position}
use Rattle.plain.specs.declared.Award.{Award}
use Rattle.plain.specs.declared.Ledger.{Ledger}
use Rattle.plain.specs.Book.{Book, Auction, no_position, nth}
use Rattle.plain.specs.Auction.{unconfirmed}
use Rattle.plain.specs.Charging.{Charge}
use Rattle.plain.specs.Histories.{balance}
use Rattle.plain.specs.Invariants.{TradeFits, Fair, Rising, Whole, Untouched, Even, open_of, OfferFits, AwardFits}

-- Day, trades, prices and positions

pub record PricesFit (day : ℕ) (prices : List Latest) : Type 0 where
  pub many : length prices ≡ SECURITIES
  pub small : All (λ p. p.price ≤ MOST_PRICE) prices
  -- no price was given on a later day
  pub days : All (λ p. p.day.0 ≤ day) prices

pub record Standing (b : Book) : Type 0 where
  pub day : Within 1 LAST_DAY b.day
  pub trades : All (TradeFits b.opening.register.count) b.trades
  pub held : b.past + length b.trades ≤ TRADES
  pub prices : PricesFit b.day b.prices
  pub fair : All (Fair b.opening.register.count b.day) b.positions
  pub rising : Rising b.positions
  -- a trade makes at most two positions
  pub counted : length b.positions ≤ 2 * b.past

-- What discharges and closes do to the positions

pub record Settled (day : ℕ) (ps : List Position) : Type 0 where
  pub even : Even day ps
  pub untouched : All (Untouched day) ps
  pub whole : All Whole ps

-- The auction, the attempt marks and the awards of a day

-- the kind of the step that a day allows on a position
abbrev pub kind_on : Register → ℕ → Position → ℕ
kind_on register day p = step_kind (step_on (nth 0 register.classes p.security) (day - p.settlement.0))

-- a position that an attempt was opened on today: a short in its attempt window
pub record Marked (register : Register) (day : ℕ) (ps : List Position) (n : ℕ) : Type 0 where
  pub held : Within 1 (length ps) n
  pub short : (nth no_position ps n).short ≡ true
  pub window : kind_on register day (nth no_position ps n) ≡ 4

-- position n is among the marks
abbrev pub marked : List ℕ → ℕ → Bool
marked marks n = some (λ k. eqb k n) marks

pub record Auctioned (register : Register) (day : ℕ) (ps : List Position) (auction : Auction) (awards : List Award) (marks : List ℕ) : Type 0 where
  pub marks_fit : All (Marked register day ps) marks
  pub few_marks : length marks ≤ ATTEMPTS
  -- the auction's short is marked and has no award yet
  pub auction_marked : 0 < auction.position → marked marks auction.position ≡ true
  pub auction_first : 0 < auction.position → All (λ a. a.position ≢ auction.position) awards
  pub offers_fit : All (OfferFits auction) auction.offers
  pub few_offers : length auction.offers ≤ OFFERS
  pub awards_fit_lem : All AwardFits awards
  pub awards_marked : All (λ a. marked marks a.position ≡ true) awards
  -- each attempt makes at most sixteen awards
  pub few_awards : length awards + only (ltb 0 auction.position) OFFERS ≤ OFFERS * length marks
  -- unconfirmed awards of a short never exceed what is open of it
  pub covered : (i : ℕ) → i < length ps → unconfirmed (suc i) awards ≤ (get_or ps i no_position).unsettled

abbrev pub AuctionedBook : Book → Type 0
AuctionedBook b = Auctioned b.opening.register b.day b.positions b.auction b.awards b.marks

-- All of it

pub record Sound (b : Book) : Type 0 where
  pub standing : Standing b
  pub settled : Settled b.day b.positions
  pub auctioned : AuctionedBook b

-- The ledger

-- the cents of charges
abbrev pub cents : List Charge → ℕ
cents cs = sum (λ c. c.cents) cs

-- both accounts of a charge are there
pub record Booked (c : Charge) : Type 0 where
  pub payer : c.payer < ACCOUNTS
  pub payee : c.payee < ACCOUNTS

-- the accounts are 0 to 63: each column has 64 places
pub record Places (l : Ledger) : Type 0 where
  pub credits : length l.credits ≡ ACCOUNTS
  pub debits : length l.debits ≡ ACCOUNTS

-- all that was credited was debited
abbrev pub Balanced : Ledger → Type 0
Balanced l = total l.credits ≡ total l.debits

-- the units open on shorts
abbrev pub open_shorts : List Position → ℕ
open_shorts ps = open_of (λ p. p.short) ps

-- what carries the bound: a close charges at most 2·10^12 cents in all, a unit that is discharged at most 21,000,000
pub record Bound (b : Book) : Type 0 where
  pub day : b.day ≤ LAST_DAY
  -- a trade leaves at most its own units open
  pub units : open_shorts b.positions ≤ MOST_QUANTITY * b.past
  pub cents : total b.ledger.credits + 21000000 * open_shorts b.positions ≤ 2000000000000 * b.day + 21000000000000 * b.past

-- "No account can leave plus or minus 10^17 cents"
pub record Small (b : Book) (k : ℕ) : Type 0 where
  pub credit : get_or b.ledger.credits k 0 ≤ 100000000000000000
  pub debit : get_or b.ledger.debits k 0 ≤ 100000000000000000
  pub difference : magnitude (balance b k) ≤ 100000000000000000
