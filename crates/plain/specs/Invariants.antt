-- What holds of every book that a history reaches, part by part. The parts are stated over what they speak of, so that a call that leaves it as it was keeps them as they are.
use Rattle.std.specs.Prelude.{ℕ, suc, ◌+◌, ◌-◌, ◌≤◌, ◌<◌, ◌≡◌, List, [], ◌∷◌, Bool, true, false, ◌&&◌, length, get_or, eqb, Some}
use Rattle.laws.specs.Limits.{MEMBERS, MOST_QUANTITY, MOST_PRICE, MOST_NETTED}
use Rattle.laws.specs.Lists.{All, only, sum}
use Rattle.events.specs.declared.Trade.{Trade}
use Rattle.events.specs.declared.Attempt.{Attempt}
use Rattle.events.specs.declared.Offer.{Offer}
use Rattle.events.specs.declared.Cash as asked
use Rattle.events.specs.declared.Event.{Event}
use Rattle.events.specs.declared.Event.TheVariants as event
use Rattle.plain.specs.declared.Kind.TheVariants.{Client}
use Rattle.plain.specs.declared.Position.{Position}
use Rattle.plain.specs.declared.Piece.{Piece}
use Rattle.plain.specs.declared.Award.{Award}
use Rattle.plain.specs.declared.Manner.{Manner}
use Rattle.plain.specs.declared.Manner.TheVariants.{Delivered, BoughtIn, Cash, Paired}
use Rattle.plain.specs.Book.{Book, Auction, given_on, no_position, position_of, award_of, latest_of, latest_price}
use Rattle.plain.specs.Netting.{Key, kind_number}
use Rattle.plain.specs.Dealing.{manners, figure, due, long_of}
use Rattle.plain.specs.Calls.{hands_out}
use Rattle.laws.specs.Asked.{Within}

-- a trade as it was accepted, in a register of so many securities
pub record TradeFits (count : ℕ) (t : Trade) : Type 0 where
  pub seller : Within 1 MEMBERS t.seller
  pub buyer : Within 1 MEMBERS t.buyer
  pub security : Within 1 count t.security
  pub quantity : Within 1 MOST_QUANTITY t.quantity
  pub price : Within 1 MOST_PRICE t.price
  pub sellerkind : t.sellerkind ≤ kind_number Client
  pub buyerkind : t.buyerkind ≤ kind_number Client

-- the fields of a position that no call changes
pub record Fair (count day : ℕ) (p : Position) : Type 0 where
  pub member : Within 1 MEMBERS p.member
  pub security : Within 1 count p.security
  pub settlement : p.settlement.0 ≤ day + 1
  pub reference : Within 1 MOST_PRICE p.reference
  pub netted : Within 1 MOST_NETTED p.netted

-- delivery days never fall along the positions
abbrev pub Rising : List Position → Type 0
Rising [] = Unit {0}
Rising (p ∷ ps) = All (λ q. p.settlement.0 ≤ q.settlement.0) ps × Rising ps

-- a position's netted quantity is what was discharged of it and what is open
abbrev pub Whole : Position → Type 0
Whole p = p.netted ≡ sum (λ m. figure m p) manners + p.unsettled

-- a position that is not due is open as a whole
abbrev pub Untouched : ℕ → Position → Type 0
Untouched day p = day < p.settlement.0 → p.unsettled ≡ p.netted

-- the due shorts, and the due longs, of a security
abbrev pub due_short : ℕ → ℕ → Position → Bool
due_short day security p = p.short && eqb p.security security && due day p

abbrev pub due_long : ℕ → ℕ → Position → Bool
due_long day security p = long_of security p && due day p

abbrev pub open_of : (Position → Bool) → List Position → ℕ
open_of test ps = sum (λ p. only (test p) p.unsettled) ps

abbrev pub netted_of : (Position → Bool) → List Position → ℕ
netted_of test ps = sum (λ p. only (test p) p.netted) ps

-- the shorts, and the longs, of a security whose delivery day is d
abbrev pub short_on : ℕ → ℕ → Position → Bool
short_on d security p = p.short && eqb p.security security && eqb p.settlement.0 d

abbrev pub long_on : ℕ → ℕ → Position → Bool
long_on d security p = long_of security p && eqb p.settlement.0 d

-- "Due shorts and due longs of a security have equal open totals"; shorts and longs that fall due together have equal netted totals
pub record Even (day : ℕ) (ps : List Position) : Type 0 where
  pub opened : (s : ℕ) → open_of (due_short day s) ps ≡ open_of (due_long day s) ps
  pub made : (s d : ℕ) → netted_of (short_on d s) ps ≡ netted_of (long_on d s) ps

-- position n is a due long of a security
pub record DueLong (b : Book) (security n : ℕ) : Type 0 where
  pub held : Within 1 (length b.positions) n
  pub long : (position_of b n).short ≡ false
  pub same : (position_of b n).security ≡ security
  pub is_due : due b.day (position_of b n) ≡ true

-- an attempt on position n, or its cash settlement
pub data NeedsPrice : Event → ℕ → Type 0 where
  attempted : (a : Attempt) → NeedsPrice (event.Attempt a) a.position
  settled : (c : asked.Cash) → NeedsPrice (event.Cash c) c.position

-- the latest price of a security was given today
abbrev pub GivenToday : Book → ℕ → Type 0
GivenToday b security = latest_price b security ≡ Some (given_on b.day (latest_of b security))

-- the units that pieces take from position n as their long
abbrev pub as_long : ℕ → List Piece → ℕ
as_long n xs = sum (λ x. only (eqb x.long n) x.quantity) xs

-- a discharge that may be dealt out: q units of the due short n
pub record Dealable (b : Book) (n q : ℕ) : Type 0 where
  pub held : Within 1 (length b.positions) n
  pub short : (position_of b n).short ≡ true
  pub is_due : due b.day (position_of b n) ≡ true
  pub enough : q ≤ (position_of b n).unsettled

-- the pieces of a discharge of q units of short n in a manner, whatever walk dealt them out
pub record Deals (b : Book) (manner : Manner) (n q : ℕ) (xs : List Piece) : Type 0 where
  pub dealable : Dealable b n q
  pub shorts : All (λ x. x.short ≡ n) xs
  pub manners : All (λ x. x.manner ≡ manner) xs
  pub longs : All (λ x. DueLong b (position_of b n).security x.long) xs
  -- no long is given more than is open of it
  pub fits : (i : ℕ) → i < length b.positions → as_long (suc i) xs ≤ (get_or b.positions i no_position).unsettled
  pub total : sum (λ x. x.quantity) xs ≡ q

-- an event's pieces, where it is a discharge: "its quantity (stated, the award's, all open)"
abbrev pub Dealt : Book → Event → Type 0
Dealt b (event.Trade t) = Unit {0}
Dealt b (event.Price p) = Unit {0}
Dealt b (event.Delivery d) = Deals b Delivered d.position d.quantity (hands_out b (event.Delivery d))
Dealt b (event.Attempt a) = Unit {0}
Dealt b (event.Offer o) = Unit {0}
Dealt b (event.Award a) = Unit {0}
Dealt b (event.Confirm c) = Deals b BoughtIn (award_of b c.award).position (award_of b c.award).quantity (hands_out b (event.Confirm c))
Dealt b (event.Cash c) = Deals b Cash c.position (position_of b c.position).unsettled (hands_out b (event.Cash c))
Dealt b event.Close = Unit {0}
Dealt b (event.PairOff x) = Deals b Paired x.short x.quantity (hands_out b (event.PairOff x))

-- the auction's offers and the awards
pub record OfferFits (auction : Auction) (o : Offer) : Type 0 where
  pub position : o.position ≡ auction.position
  pub offerer : Within 1 MEMBERS o.offerer
  pub quantity : Within 1 MOST_QUANTITY o.quantity
  pub price : Within 1 MOST_PRICE o.price
  pub cheap : o.price ≤ auction.ceiling

pub record AwardFits (a : Award) : Type 0 where
  pub offerer : Within 1 MEMBERS a.offerer
  pub quantity : Within 1 MOST_QUANTITY a.quantity
  pub price : Within 1 MOST_PRICE a.price

-- a key of a member and a registered security, of either kind
pub record KeyFits (count : ℕ) (k : Key) : Type 0 where
  pub member : Within 1 MEMBERS k.member
  pub security : Within 1 count k.security
