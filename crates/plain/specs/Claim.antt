-- The claim about histories, for the plain book: what holds after every list of calls, refused ones included, from any new book.
use Rattle.std.specs.Prelude.{ℕ, suc, ◌+◌, ◌-◌, ◌*◌, ◌≤◌, ◌<◌, ◌≡◌, ◌≢◌, List, [], ◌∷◌, map, Bool, true, not, ◌&&◌, length, get_or, pos, ◌+ℤ◌, eqb}
use Rattle.std.proofs.Math.IntN.{sub_ℕ}
use Rattle.laws.specs.Limits.{ACCOUNTS, MEMBERS, POSITIONS, AWARDS, SECURITIES}
use Rattle.laws.specs.Lists.{All, range, only, sum, some}
use Rattle.laws.specs.Asked.{Within}
use Rattle.laws.specs.Integers.{sumℤ}
use Rattle.events.specs.declared.Trade.{Trade}
use Rattle.events.specs.declared.Award as asked
use Rattle.events.specs.declared.Cash.{Cash}
use Rattle.events.specs.declared.PairOff.{PairOff}
use Rattle.events.specs.declared.Event.TheVariants as event
use Rattle.plain.specs.declared.Opening.{Opening}
use Rattle.plain.specs.declared.Kind.{Kind}
use Rattle.plain.specs.declared.Position.{Position}
use Rattle.plain.specs.declared.Piece.{Piece}
use Rattle.plain.specs.Book.{Book, new, no_position, position_of, latest_price}
use Rattle.plain.specs.Netting.{kind_number}
use Rattle.plain.specs.Dealing.{manners, taken_by, fresh}
use Rattle.plain.specs.Charging.{credit_of, debit_of, settlement_terms}
use Rattle.plain.specs.Calls.{Call, paired_piece, is_discharge, short_of}
use Rattle.plain.specs.Refusals.{refusal}
use Rattle.plain.specs.Histories.{event_of, next, pieces, quantity, charged, run, handed, all_charges, accepted_events, formed_by, trades_on, latest_by, offers_by, balance}
use Rattle.plain.specs.Cover.{added, Covered, PaysLeast, Confirmed, confirmations_of}
use Rattle.plain.specs.Invariants.{netted_of, DueLong, Dealable, NeedsPrice, GivenToday}
use Rattle.plain.specs.Sound.{Sound, Small}

-- the pieces of a call, from its short n
pub record Discharge (b : Book) (c : Call) (n : ℕ) : Type 0 where
  -- the short is due and has the units
  pub dealable : Dealable b n (quantity b c)
  -- the pieces add up to the quantity that the call reports
  pub total : sum (λ x. x.quantity) (pieces b c) ≡ quantity b c
  -- each runs from the call's short to a due long of its security
  pub shorts : All (λ x. x.short ≡ n) (pieces b c)
  pub longs : All (λ x. DueLong b (position_of b n).security x.long) (pieces b c)

-- "All pieces of one cash settlement now use the highest among ..": one price for the settlement of short n with these pieces
pub record OnePrice (b : Book) (n : ℕ) (xs : List Piece) : Type 0 where
  pub price : ℕ
  -- each piece's cents are its quantity times it
  pub costs : All (λ x. x.cents ≡ x.quantity * price) xs
  -- no term of the rule exceeds it, and it is one of them
  pub most : All (λ term. term ≤ price) (settlement_terms b n xs)
  pub among : some (λ term. eqb term price) (settlement_terms b n xs) ≡ true

-- document 02, Slip 7: "Both fall by the quantity, one piece of manner paired and 0 cents is handed out": what a pair-off makes of a book, and its pieces
pub record SetOff (b after : Book) (x : PairOff) (xs : List Piece) : Type 0 where
  -- both are there, and no position comes or goes
  pub short_held : Within 1 (length b.positions) x.short
  pub long_held : Within 1 (length b.positions) x.long
  pub many : length after.positions ≡ length b.positions
  pub piece : xs ≡ paired_piece x ∷ []
  -- the two sides are one member's, in business of one kind
  pub member : (position_of b x.long).member ≡ (position_of b x.short).member
  pub kind : (position_of b x.long).kind ≡ (position_of b x.short).kind
  -- both fall
  pub short_falls : (position_of after x.short).unsettled + x.quantity ≡ (position_of b x.short).unsettled
  pub long_falls : (position_of after x.long).unsettled + x.quantity ≡ (position_of b x.long).unsettled
  -- nothing is paid
  pub unpaid : after.ledger ≡ b.ledger

-- "Demand 3 works out the netted quantity by kind too" (document 02, Slip 5): the units that a member sold, and bought, of a security in business of
-- the kind with that number
abbrev pub sold_of : ℕ → ℕ → ℕ → List Trade → ℕ
sold_of member kind security ts =
    sum (λ t. only (eqb t.seller member && eqb t.sellerkind kind && eqb t.security security) t.quantity) ts

abbrev pub bought_of : ℕ → ℕ → ℕ → List Trade → ℕ
bought_of member kind security ts =
    sum (λ t. only (eqb t.buyer member && eqb t.buyerkind kind && eqb t.security security) t.quantity) ts

-- whether a position of delivery day s is of that business
abbrev pub is_of : ℕ → ℕ → ℕ → ℕ → Position → Bool
is_of member kind security s p =
    (eqb member p.member && eqb kind (kind_number p.kind) && eqb security p.security) && eqb p.settlement.0 s

-- the positions that the close of day d made of that business: the shorts have what was sold beyond what was bought, the longs the reverse
pub record NettedByKind (member kind security d : ℕ) (ts : List Trade) (ps : List Position) : Type 0 where
  pub shorts : netted_of (λ p. p.short && is_of member kind security (d + 2) p) ps ≡ sold_of member kind security ts - bought_of member kind security ts
  pub longs : netted_of (λ p. not p.short && is_of member kind security (d + 2) p) ps ≡ bought_of member kind security ts - sold_of member kind security ts

-- "A refused call changes nothing", and hands out nothing
pub record Refused (b : Book) (c : Call) : Type 0 where
  pub book : next b c ≡ b
  pub pieces' : pieces b c ≡ []
  pub quantity' : quantity b c ≡ 0
  pub charges' : charged b c ≡ []

-- after the list of calls cs on a new book that was opened so
pub record Claim (opening : Opening) (cs : List Call) : Type 0 where
  -- each position's netted quantity, worked out from the accepted trades and closes of the list alone, is the book's
  pub netted : (i : ℕ) → (get_or (run (new opening) cs).positions i no_position).netted
      ≡ (get_or (formed_by opening (accepted_events (new opening) cs)) i no_position).netted
  -- and so is what makes a position: its member, kind, security, side, delivery day and reference price
  pub positions : map fresh (run (new opening) cs).positions ≡ formed_by opening (accepted_events (new opening) cs)
  -- and so is the netted quantity of each member's business of each kind in each security, by the trades of the day alone
  pub by_kind : (member security d : ℕ) (kind : Kind) → Within 1 MEMBERS member → Within 1 opening.register.count security
      → NettedByKind member (kind_number kind) security d (trades_on opening (accepted_events (new opening) cs) d) (run (new opening) cs).positions
  -- a position's netted quantity is what was delivered, bought in, settled in cash and paired off, summed over all pieces handed out in the list, by manner, and what
  -- is open: "A position's netted quantity then has five terms" (document 02, Slip 7)
  pub tallied : (i : ℕ) → i < length (run (new opening) cs).positions
      → (get_or (run (new opening) cs).positions i no_position).netted
      ≡ sum (λ m. taken_by m (suc i) (handed (new opening) cs)) manners + (get_or (run (new opening) cs).positions i no_position).unsettled
  -- each security's latest price, and the day on which it was given, are worked out from the accepted prices and closes of the list alone
  pub prices : (security : ℕ) → Within 1 SECURITIES security
      → latest_price (run (new opening) cs) security ≡ latest_by opening (accepted_events (new opening) cs) security
  -- each account is the charging rules summed over the list
  pub accounts' : (k : ℕ) → k < ACCOUNTS → balance (run (new opening) cs) k ≡ sub_ℕ (credit_of k (all_charges (new opening) cs)) (debit_of k (all_charges (new opening) cs))
  -- and a next call moves it by the call's own charges alone
  pub booked : (c : Call) (k : ℕ) → k < ACCOUNTS
      → balance (next (run (new opening) cs) c) k ≡ balance (run (new opening) cs) k +ℤ sub_ℕ (credit_of k (charged (run (new opening) cs) c)) (debit_of k (charged (run (new opening) cs) c))
  -- all 64 add up to zero
  pub zero_sum : sumℤ (balance (run (new opening) cs)) (range 0 ACCOUNTS) ≡ pos 0
  -- "No account can leave plus or minus 10^17 cents"
  pub small : (k : ℕ) → Small (run (new opening) cs) k
  -- "512 trades a book make at most 1,024 positions."
  pub few : length (run (new opening) cs).positions ≤ POSITIONS
  -- at most sixteen awards for each of sixteen attempts a day
  pub few_awards : length (run (new opening) cs).awards ≤ AWARDS
  -- what else holds of the book
  pub holds : Sound (run (new opening) cs)
  -- a next call that is a discharge and is accepted hands out pieces that add up to its quantity, from that short to due longs of its security
  pub discharges : (c : Call) → refusal (run (new opening) cs) c ≡ 0 → is_discharge (event_of c) ≡ true → Discharge (run (new opening) cs) c (short_of (run (new opening) cs) (event_of c))
  -- a next call that is an attempt or a cash settlement and is accepted goes by a price that was given today
  pub fresh : (c : Call) (n : ℕ) → refusal (run (new opening) cs) c ≡ 0 → NeedsPrice (event_of c) n
      → GivenToday (run (new opening) cs) (position_of (run (new opening) cs) n).security
  -- a next call that is a cash settlement and is accepted has one price for all its pieces
  pub one_price : (c : Call) (s : Cash) → refusal (run (new opening) cs) c ≡ 0 → event_of c ≡ event.Cash s
      → OnePrice (run (new opening) cs) s.position (pieces (run (new opening) cs) c)
  -- a next call that is a pair-off and is accepted sets off a short and a long of one member and kind against each other
  pub pairs_off : (c : Call) (x : PairOff) → refusal (run (new opening) cs) c ≡ 0 → event_of c ≡ event.PairOff x
      → SetOff (run (new opening) cs) (next (run (new opening) cs) c) x (pieces (run (new opening) cs) c)
  -- the offers of the running auction, in order of arrival, are worked out from the accepted attempts, offers and awards of the list alone
  pub offers : (run (new opening) cs).auction.offers ≡ offers_by (accepted_events (new opening) cs)
  -- a next call that is an award and is accepted makes awards that are the cheapest cover of its short, and reports their units
  pub cheapest : (c : Call) (a : asked.Award) → refusal (run (new opening) cs) c ≡ 0 → event_of c ≡ event.Award a
      → Covered (run (new opening) cs) (next (run (new opening) cs) c) a.position (quantity (run (new opening) cs) c)
  -- and once later calls of the day have confirmed all of them, the seller was charged least
  pub pays_least : (c : Call) (a : asked.Award) (later : List Call) → refusal (run (new opening) cs) c ≡ 0 → event_of c ≡ event.Award a
      → Confirmed (run (new opening) cs) (next (run (new opening) cs) c) (run (next (run (new opening) cs) c) later)
      → PaysLeast (run (new opening) cs) a.position (added (run (new opening) cs) (next (run (new opening) cs) c))
      (confirmations_of (run (new opening) cs) (next (run (new opening) cs) c) later)
  -- a next call that is refused changes nothing and hands out nothing
  pub refuses : (c : Call) → refusal (run (new opening) cs) c ≢ 0 → Refused (run (new opening) cs) c
