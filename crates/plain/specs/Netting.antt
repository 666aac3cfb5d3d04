-- Document 01, 'Trades and netting', and document 02, Slip 5: the positions that a day's trades make.
use Rattle.std.specs.Prelude.{ℕ, ◌+◌, ◌-◌, List, [], ◌∷◌, map, Bool, true, false, cond, ◌&&◌, ltb, eqb}
use Rattle.laws.specs.Limits.{MEMBERS}
use Rattle.laws.specs.Lists.{only, keep, sum, highest, each, range}
use Rattle.events.specs.declared.Trade.{Trade}
use Rattle.plain.specs.declared.Kind.{Kind}
use Rattle.plain.specs.declared.Kind.TheVariants.{Own, Client}
use Rattle.plain.specs.declared.Position.{Position}

-- "Each side of a trade carries a kind: .. 0 own, 1 client" (document 02, Slip 5): the number of a kind, and the kind of a number
abbrev pub kind_number : Kind → ℕ
kind_number Own = 0
kind_number Client = 1

abbrev pub kind_of : ℕ → Kind
kind_of n = cond (eqb n 1) Client Own

-- own before client
abbrev pub kinds : List Kind
kinds = Own ∷ Client ∷ []

-- a member's business of one kind in a security
pub record Key : Type 0 where
  pub member : ℕ
  pub kind : Kind
  pub security : ℕ

-- "Netting is by member, kind and security, positions are ordered so" (document 02, Slip 5): the securities of a register by their numbers,
-- for each kind, for each member; "Members are 1 to 63"
abbrev pub kind_keys : ℕ → ℕ → Kind → List Key
kind_keys count member kind = each (λ s. record { member = member; kind = kind; security = s } ∷ []) (range 1 count)

abbrev pub member_keys : ℕ → ℕ → List Key
member_keys count member = each (kind_keys count member) kinds

unfoldable pub keys : ℕ → List Key
keys count = each (member_keys count) (range 1 MEMBERS)

-- "body byte 12 for the seller, 13 for the buyer": the number of the kind that is sold, and bought, in
abbrev pub sold_in : Trade → ℕ
sold_in t = t.sellerkind

abbrev pub bought_in : Trade → ℕ
bought_in t = t.buyerkind

-- the trades in which the key's member buys or sells its security in business of its kind
abbrev pub buys : Key → Trade → Bool
buys k t = eqb t.buyer k.member && eqb (bought_in t) (kind_number k.kind) && eqb t.security k.security

abbrev pub sells : Key → Trade → Bool
sells k t = eqb t.seller k.member && eqb (sold_in t) (kind_number k.kind) && eqb t.security k.security

-- the units of the trades that pass a test, and their highest price
unfoldable pub units : (Trade → Bool) → List Trade → ℕ
units test trades = sum (λ t. only (test t) t.quantity) trades

unfoldable pub highest_price : (Trade → Bool) → List Trade → ℕ
highest_price test trades = highest (map (λ t. only (test t) t.price) trades)

-- "A position's delivery day S is the trade day plus 2"; "Netted is bought minus sold without its sign; at first all of it is open."
unfoldable pub made : ℕ → Key → Bool → ℕ → ℕ → Position
made day k short quantity reference =
    record {
      member = k.member;
      kind = k.kind;
      security = k.security;
      short = short;
      settlement = record { 0 = day + 2 };
      reference = reference;
      netted = quantity;
      delivered = 0;
      bought = 0;
      cash = 0;
      paired = 0;
      unsettled = quantity;
    }

-- "bought minus sold. Zero makes no position; negative makes a short, positive a long.";
-- "Its reference price is the highest price among that member's sales (short) or purchases (long) in that group.", which a kind parts too
unfoldable pub net_of : ℕ → Key → ℕ → ℕ → ℕ → ℕ → List Position
net_of day k bought highestBought sold highestSold =
    keep (ltb bought sold) (made day k true (sold - bought) highestSold)
    (keep (ltb sold bought) (made day k false (bought - sold) highestBought) [])

unfoldable pub net : ℕ → List Trade → Key → List Position
net day trades k =
    net_of day k (units (buys k) trades) (highest_price (buys k) trades) (units (sells k) trades) (highest_price (sells k) trades)

-- "the day's trades are netted for each member and security", and for each kind
unfoldable pub netted : ℕ → List Trade → List Key → List Position
netted day trades ks = each (net day trades) ks
