-- Document 01, 'Auction', 'Cash settlement' and 'Close', and document 02, Slip 4: what each step charges. A charge goes from its payer to its payee.
use Rattle.std.specs.Prelude.{ℕ, ◌+◌, ◌*◌, List, [], ◌∷◌, ◌++◌, map, not, ◌&&◌, get_or, set, ltb, eqb}
use Rattle.laws.specs.Lists.{only, keep, sum, highest, each}
use Rattle.rules.specs.declared.Amount.{Amount}
use Rattle.rules.specs.declared.Amount.TheVariants.{Debit, Credit}
use Rattle.rules.specs.Prices.{cash_terms}
use Rattle.rules.specs.Charges.{cash_fee, award_fine, late_fine, buy_in_charge}
use Rattle.plain.specs.declared.Position.{Position}
use Rattle.plain.specs.declared.Piece.{Piece}
use Rattle.plain.specs.declared.Award.{Award}
use Rattle.plain.specs.declared.Ledger.{Ledger}
use Rattle.plain.specs.Book.{Book, no_position, nth, position_of, class_of, latest_of}
use Rattle.plain.specs.Dealing.{due}

pub record Charge : Type 0 where
  pub payer : ℕ
  pub payee : ℕ
  pub cents : ℕ

-- cents that account k is credited and debited by charges
unfoldable pub credit_of : ℕ → List Charge → ℕ
credit_of k cs = sum (λ c. only (eqb c.payee k) c.cents) cs

unfoldable pub debit_of : ℕ → List Charge → ℕ
debit_of k cs = sum (λ c. only (eqb c.payer k) c.cents) cs

-- n more at place k of a list
abbrev pub raise : List ℕ → ℕ → ℕ → List ℕ
raise l k n = set l k (get_or l k 0 + n)

-- the ledger after charges, one after the other
unfoldable pub credited : List ℕ → List Charge → List ℕ
credited l [] = l
credited l (c ∷ cs) = credited (raise l c.payee c.cents) cs

unfoldable pub debited : List ℕ → List Charge → List ℕ
debited l [] = l
debited l (c ∷ cs) = debited (raise l c.payer c.cents) cs

unfoldable pub posted : Ledger → List Charge → Ledger
posted l cs = record { credits = credited l.credits cs; debits = debited l.debits cs }

-- "to account 0; a negative charge is a credit": a member and the house, by the amount
unfoldable pub charge : ℕ → Amount → Charge
charge member (Debit cents) = record { payer = member; payee = 0; cents = cents }
charge member (Credit cents) = record { payer = 0; payee = member; cents = cents }

-- "The seller is charged quantity times (award price minus the short's reference price), to account 0"
unfoldable pub buy_in_charges : Book → Award → List Charge
buy_in_charges b a =
    let short = position_of b a.position in
    charge short.member (buy_in_charge a.quantity a.price short.reference) ∷ []

-- the reference prices of the longs in pieces, by these positions
abbrev pub long_references : List Position → List Piece → List ℕ
long_references ps xs = map (λ x. (nth no_position ps x.long).reference) xs

-- "the short's reference price, the latest price doubled (class 3: plus 300 cents) and the reference prices of all longs in its pieces": the terms of the
-- rule, for the settlement of short n with these pieces
abbrev pub settlement_terms : Book → ℕ → List Piece → List ℕ
settlement_terms b n xs =
    let short = position_of b n in
    cash_terms (class_of b short.security) short.reference (long_references b.positions xs) (latest_of b short.security)

-- "All pieces of one cash settlement now use the highest among" them
unfoldable pub settlement_price : Book → ℕ → List Piece → ℕ
settlement_price b n xs = highest (settlement_terms b n xs)

-- "A piece costs its quantity times" that price
unfoldable pub priced_at : ℕ → Piece → Piece
priced_at price x =
    record { short = x.short; long = x.long; quantity = x.quantity; manner = x.manner; cents = x.quantity * price }

-- "The short's member pays each long's member. The fee to account 0 is open times latest price over 40,000"
unfoldable pub payment : List Position → Piece → Charge
payment ps x =
    record { payer = (nth no_position ps x.short).member; payee = (nth no_position ps x.long).member; cents = x.cents }

-- the fee for a short, by what is open of it before the settlement
abbrev pub fee_of : Position → ℕ → Charge
fee_of short latest = record { payer = short.member; payee = 0; cents = cash_fee (short.unsettled * latest) }

unfoldable pub cash_charges_by : ℕ → List Position → ℕ → List Piece → List Charge
cash_charges_by latest ps n xs = map (payment ps) xs ++ fee_of (nth no_position ps n) latest ∷ []

unfoldable pub cash_charges : Book → ℕ → List Piece → List Charge
cash_charges b n xs = cash_charges_by (latest_of b (position_of b n).security) b.positions n xs

-- "each unconfirmed award, in order, costs its offerer value over 2,500 ..; value is quantity (open, for shorts) times latest price, and no price yet means no charge"
unfoldable pub award_fines : Book → Award → List Charge
award_fines b a =
    let security = (position_of b a.position).security in
    let latest = latest_of b security in
    keep (not a.confirmed && ltb 0 latest)
    (record { payer = a.offerer; payee = 0; cents = award_fine (class_of b security) (a.quantity * latest) })
    []

-- "each due class 1 short costs its member value over 10,000"
unfoldable pub late_fines : Book → Position → List Charge
late_fines b p =
    let latest = latest_of b p.security in
    keep (p.short && due b.day p && eqb (class_of b p.security) 1 && ltb 0 latest)
    (record { payer = p.member; payee = 0; cents = late_fine (p.unsettled * latest) })
    []

-- "In this order, all charges going to account 0"
unfoldable pub close_charges : Book → List Charge
close_charges b = each (award_fines b) b.awards ++ each (late_fines b) b.positions
