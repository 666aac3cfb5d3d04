-- Document 01, 'The plain book': "Demand 3 is a single claim about the list (also called a history), not one for each call." What it says of every
-- list of calls from any opened book, refused ones included, in place or by value, with sheets of any length.
use Rattle.std.specs.Prelude.{ℕ, suc, ◌+◌, ◌≤◌, ◌<◌, ◌≡◌, ◌≢◌, List, [], ◌∷◌, ◌++◌, map, true, cond, length, get_or, drop, pos, ◌+ℤ◌, Ok, Err, Result}
use Rattle.std.proofs.Math.IntN.{sub_ℕ}
use Rattle.laws.specs.Limits.{ACCOUNTS, MEMBERS}
use Rattle.laws.specs.Asked.{Within, within}
use Rattle.laws.specs.Lists.{All, range, sum}
use Rattle.laws.specs.Integers.{sumℤ}
use Rattle.events.specs.declared.Award as asked
use Rattle.events.specs.declared.Cash.{Cash}
use Rattle.events.specs.declared.PairOff.{PairOff}
use Rattle.events.specs.declared.Event.TheVariants as event
use Rattle.plain.specs.declared.Opening.{Opening}
use Rattle.plain.specs.declared.Kind.{Kind}
use Rattle.plain.specs.declared.Position.{Position}
use Rattle.plain.specs.declared.Award.{Award}
use Rattle.plain.specs.declared.Piece.{Piece}
use Rattle.plain.specs.Book.{Book, new, no_position, no_award, nth, there, position_of}
use Rattle.plain.specs.Netting.{kind_number}
use Rattle.plain.specs.Dealing.{manners, taken_by, fresh}
use Rattle.plain.specs.Charging.{credit_of, debit_of}
use Rattle.plain.specs.Calls.{Call, paired_piece, is_discharge, short_of}
use Rattle.plain.specs.Refusals.{refusal}
use Rattle.plain.specs.Histories.{event_of, pieces, quantity, charged, along, refusals, quantities, run, all_charges, accepted_events, formed_by, trades_on, latest_by, offers_by, balance}
use Rattle.plain.specs.Cover.{units_of, Cheapest, added, PaysLeast, confirmations_of}
use Rattle.plain.specs.Invariants.{DueLong, NeedsPrice, GivenToday}
use Rattle.plain.specs.Sound.{Small}
use Rattle.plain.specs.Claim.{OnePrice, NettedByKind}
use Rattle.pieces.specs.Sheet.{sheet_with}
use Rattle.laws.specs.Answers.{answer, number_in, quantity_of}
use Rattle.laws.specs.declared.Refusal.{Refusal}
use Rattle.laws.specs.declared.Refusal.TheVariants.{NotRegistered, NotThere}
use Rattle.reading.specs.Reading.{position_answer, award_answer, price_answer, signed, balance_answer}
use Rattle.history.specs.Runs.{Stand, view, Sheet, no_sheet, number_sheet, piece_sheet, handed_back, Return, pieces_on, last, sheets}

-- what is said of each call of a list, with the calls that follow it and what they returned
pub data Onward (P : Stand → Call → Return → List Call → List Return → Type 0) : Stand → List Call → List Return → Type 0 where
  none : {s : Stand} → Onward P s [] []
  one : {s : Stand} {c : Call} {r : Return} {cs : List Call} {rs : List Return} → P s c r cs rs → Onward P r.stand cs rs → Onward P s (c ∷ cs) (r ∷ rs)

-- what is said of each call by itself
abbrev pub Each : (Stand → Call → Return → Type 0) → Stand → List Call → List Return → Type 0
Each P = Onward (λ s c r cs rs. P s c r)

-- an accepted discharge's pieces add up to the quantity that it reports, and run from its short to due longs of that short's security
pub record Dealt (s : Stand) (c : Call) (r : Return) : Type 0 where
  pub total : sum (λ x. x.quantity) (pieces_on r) ≡ quantity_of r.outcome
  pub shorts : All (λ x. x.short ≡ short_of (view s) (event_of c)) (pieces_on r)
  pub longs : All (λ x. DueLong (view s) (position_of (view s) (short_of (view s) (event_of c))).security x.long) (pieces_on r)

abbrev pub DealtOut : Stand → Call → Return → Type 0
DealtOut s c r = number_in r.outcome ≡ 0 → is_discharge (event_of c) ≡ true → Dealt s c r

-- of an attempt or cash settlement that was accepted: the latest price of its security was given today
abbrev pub Fresh : Stand → Call → Return → Type 0
Fresh s c r = (n : ℕ) → number_in r.outcome ≡ 0 → NeedsPrice (event_of c) n → GivenToday (view s) (position_of (view s) n).security

-- of a cash settlement that was accepted: all its pieces have one price, the highest term of the rule
abbrev pub PricedOnce : Stand → Call → Return → Type 0
PricedOnce s c r = (x : Cash) → number_in r.outcome ≡ 0 → event_of c ≡ event.Cash x → OnePrice (view s) x.position (pieces_on r)

-- "Both fall by the quantity, one piece of manner paired and 0 cents is handed out": of a pair-off that was accepted, its two positions as the public read answers
-- them before and after it, and what its sheet holds
pub record PairRead (s : Stand) (x : PairOff) (r : Return) : Type 0 where
  pub short : Position
  pub long : Position
  pub short_after : Position
  pub long_after : Position
  pub found_short : position_answer (view s) x.short ≡ Ok short
  pub found_long : position_answer (view s) x.long ≡ Ok long
  pub found_short_after : position_answer (view r.stand) x.short ≡ Ok short_after
  pub found_long_after : position_answer (view r.stand) x.long ≡ Ok long_after
  pub piece : pieces_on r ≡ paired_piece x ∷ []
  pub reported : quantity_of r.outcome ≡ x.quantity
  -- the two sides are one member's, in business of one kind; that the long is a due one of the security is said of every discharge
  pub member : long.member ≡ short.member
  pub kind : long.kind ≡ short.kind
  -- both fall
  pub short_falls : short_after.unsettled + x.quantity ≡ short.unsettled
  pub long_falls : long_after.unsettled + x.quantity ≡ long.unsettled
  -- nothing is paid
  pub unpaid : (k : ℕ) → balance_answer (view r.stand) k ≡ balance_answer (view s) k

abbrev pub PairsOff : Stand → Call → Return → Type 0
PairsOff s c r = (x : PairOff) → number_in r.outcome ≡ 0 → event_of c ≡ event.PairOff x → PairRead s x r

-- what the public read answers to a number, of these awards
abbrev pub answer_in : List Award → ℕ → Result Award Refusal
answer_in awards n = cond (there awards n) (Ok (nth no_award awards n)) (Err NotThere)

-- of an award for short n that was accepted: the awards that the public read answers after it, beyond those that it answered before, are the cheapest
-- cover of what it answered to be open of the short
pub record CoverRead (s : Stand) (n : ℕ) (r : Return) : Type 0 where
  pub short : Position
  pub found : position_answer (view s) n ≡ Ok short
  pub awards : List Award
  pub earlier : (i : ℕ) → i ≤ length (view s).awards → award_answer (view r.stand) i ≡ award_answer (view s) i
  pub later : (i : ℕ) → award_answer (view r.stand) (suc (length (view s).awards) + i) ≡ answer_in awards (suc i)
  pub reported : quantity_of r.outcome ≡ units_of awards
  pub cheapest : Cheapest short.unsettled (view s).auction.offers awards

abbrev pub CheapestRead : Stand → Call → Return → Type 0
CheapestRead s c r = (a : asked.Award) → number_in r.outcome ≡ 0 → event_of c ≡ event.Award a → CoverRead s a.position r

-- award n is confirmed, as the public read answers
pub record ReadConfirmed (b : Book) (n : ℕ) : Type 0 where
  pub award' : Award
  pub found : award_answer b n ≡ Ok award'
  pub confirmed : award'.confirmed ≡ true

-- of an award that was accepted: once the calls that follow have confirmed, on the same day, all that it awarded, the seller was charged least
abbrev pub SellerPaysLeast : Stand → Call → Return → List Call → List Return → Type 0
SellerPaysLeast s c r cs rs =
    (a : asked.Award) → number_in r.outcome ≡ 0 → event_of c ≡ event.Award a → (view (last r.stand rs)).day ≡ (view s).day
    → ((n : ℕ) → Within (suc (length (view s).awards)) (length (view r.stand).awards) n → ReadConfirmed (view (last r.stand rs)) n)
    → PaysLeast (view s) a.position (added (view s) (view r.stand)) (confirmations_of (view s) (view r.stand) cs)

-- each account, as the public read answers it after the call, is what it was, with the call's own charges alone
abbrev pub Booked : Stand → Call → Return → Type 0
Booked s c r =
    (k : ℕ) → k < ACCOUNTS
    → balance_answer (view r.stand) k ≡ Ok (signed (balance (view s) k +ℤ sub_ℕ (credit_of k (charged (view s) c)) (debit_of k (charged (view s) c))))

-- "A refused call changes nothing": core and tables are the very same
abbrev pub Kept : Stand → Call → Return → Type 0
Kept s c r = number_in r.outcome ≢ 0 → (r.stand ≡ s) × (pieces_on r ≡ []) × (quantity_of r.outcome ≡ 0)

-- what a call's sheet holds as it returned, with so many pieces: "The pieces fill the first places of a lent sheet ..; later places keep their
-- content"
abbrev pub Holds : Sheet → ℕ → List Piece → Type 0
Holds no_sheet n xs = [] ≡ xs
Holds (number_sheet entry exit) n xs = exit ≡ sheet_with xs entry
Holds (piece_sheet entry exit) n xs = exit ≡ xs ++ drop n entry
Holds (handed_back ys) n xs = ys ≡ xs

-- a sheet as at entry
abbrev pub AsAtEntry : Sheet → Type 0
AsAtEntry no_sheet = Unit {0}
AsAtEntry (number_sheet entry exit) = exit ≡ entry
AsAtEntry (piece_sheet entry exit) = exit ≡ entry
AsAtEntry (handed_back xs) = xs ≡ []

pub record Filled (s : Stand) (c : Call) (r : Return) : Type 0 where
  pub count : r.count ≡ length (pieces (view s) c)
  pub filled : Holds r.sheet r.count (pieces (view s) c)
  pub kept : number_in r.outcome ≢ 0 → AsAtEntry r.sheet

-- After the list of calls cs from where the history s begins, on a book that was opened so, with what each returned
pub record History (opening : Opening) (s : Stand) (cs : List Call) (rs : List Return) : Type 0 where
  -- 1. each call's answer, its refusal number and its quantity are the plain book's, and the book is the plain book's
  pub answered : map (λ r. r.outcome) rs ≡ along (λ b c. answer (refusal b c) (quantity b c)) (new opening) cs
  pub numbers : map (λ r. number_in r.outcome) rs ≡ refusals (new opening) cs
  pub reported : map (λ r. quantity_of r.outcome) rs ≡ quantities (new opening) cs
  pub book : view (last s rs) ≡ run (new opening) cs
  -- 2. each position's netted quantity, worked out from the accepted trades and closes of the list alone, is delivered, bought in, settled in cash, paired off
  -- and open
  pub netted : (i : ℕ) → i < length (view (last s rs)).positions
      → (get_or (formed_by opening (accepted_events (new opening) cs)) i no_position).netted
      ≡ sum (λ m. taken_by m (suc i) (sheets rs)) manners + (get_or (view (last s rs)).positions i no_position).unsettled
  -- the same of what the public read reports of a position
  pub open_units : (n : ℕ) (p : Position) → position_answer (view (last s rs)) n ≡ Ok p
      → (nth no_position (formed_by opening (accepted_events (new opening) cs)) n).netted
      ≡ sum (λ m. taken_by m n (sheets rs)) manners + p.unsettled
  -- and all that makes a position comes from them alone: its member, kind, security, side, delivery day and reference price
  pub positions : map fresh (view (last s rs)).positions ≡ formed_by opening (accepted_events (new opening) cs)
  -- the netted quantity of each member's business of each kind in each security, by the trades of the day alone
  pub by_kind : (member security d : ℕ) (kind : Kind) → Within 1 MEMBERS member → Within 1 opening.register.count security
      → NettedByKind member (kind_number kind) security d (trades_on opening (accepted_events (new opening) cs) d) (view (last s rs)).positions
  -- each security's latest price and the day on which it was given, as the public read reports them of any number, come from the accepted prices
  -- and closes of the list alone
  pub latest_prices : (security : ℕ) → price_answer (view (last s rs)) security
      ≡ cond (within 1 opening.register.count security) (Ok (latest_by opening (accepted_events (new opening) cs) security)) (Err NotRegistered)
  -- and each accepted attempt or cash settlement goes by a price that was given on its day
  pub fresh : Each Fresh s cs rs
  -- 3. each call's pieces are the plain book's, in the same order; an accepted discharge's add up to the quantity that it reports
  pub dealt : map pieces_on rs ≡ along pieces (new opening) cs
  pub discharges : Each DealtOut s cs rs
  -- and each accepted cash settlement has one price for all its pieces
  pub one_price : Each PricedOnce s cs rs
  -- and each accepted pair-off sets off a short and a long of one member and kind against each other, by its one piece
  pub pairs_off : Each PairsOff s cs rs
  -- the offers of the running auction, in order of arrival, come from the accepted attempts, offers and awards alone
  pub offers : (view (last s rs)).auction.offers ≡ offers_by (accepted_events (new opening) cs)
  -- each accepted award made, of the offers of its auction, the cheapest cover of its short
  pub cheapest : Each CheapestRead s cs rs
  -- 4. every account is the charging rules summed over the list
  pub accounts : (k : ℕ) → k < ACCOUNTS → balance (view (last s rs)) k ≡ sub_ℕ (credit_of k (all_charges (new opening) cs)) (debit_of k (all_charges (new opening) cs))
  -- the same of what the public read reports of an account
  pub balances : (k : ℕ) → k < ACCOUNTS
      → balance_answer (view (last s rs)) k ≡ Ok (signed (sub_ℕ (credit_of k (all_charges (new opening) cs)) (debit_of k (all_charges (new opening) cs))))
  -- and each call moves it by the call's own charges alone
  pub booked : Each Booked s cs rs
  -- and by the confirmations of what an award made, once there is one of each, its seller is charged least
  pub pays_least : Onward SellerPaysLeast s cs rs
  -- 5. all 64 accounts add up to zero, and none leaves plus or minus 10^17 cents
  pub zero_sum : sumℤ (balance (view (last s rs))) (range 0 ACCOUNTS) ≡ pos 0
  pub small : (k : ℕ) → Small (view (last s rs)) k
  -- a refused call returns the very same core, leaves every table as it was, hands out no pieces and reports quantity 0
  pub refused : Each Kept s cs rs
  -- each call's sheet holds the plain book's pieces, and after them the places as at entry; a refused call's is as at entry
  pub filled : Each Filled s cs rs
