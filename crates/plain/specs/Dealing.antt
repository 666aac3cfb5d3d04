-- Document 01, 'Discharge and pieces': how a discharge is dealt out to the due longs of its security.
use Rattle.std.specs.Prelude.{ℕ, suc, ◌+◌, ◌-◌, min, List, [], ◌∷◌, Bool, not, ◌&&◌, ltb, leb, eqb}
use Rattle.laws.specs.Lists.{only, keep, sum, each, range, number}
use Rattle.plain.specs.declared.Position.{Position}
use Rattle.plain.specs.declared.Piece.{Piece}
use Rattle.plain.specs.declared.Manner.{Manner}
use Rattle.plain.specs.declared.Manner.TheVariants.{Delivered, BoughtIn, Cash, Paired}

-- the number of a manner: 1 delivered, 2 bought in, 3 cash, 4 paired (document 02, Slip 7)
abbrev pub manner_number : Manner → ℕ
manner_number Delivered = 1
manner_number BoughtIn = 2
manner_number Cash = 3
manner_number Paired = 4

-- the manners in which a position is discharged
abbrev pub manners : List Manner
manners = Delivered ∷ BoughtIn ∷ Cash ∷ Paired ∷ []

-- the figure of a position that a manner raises
abbrev pub figure : Manner → Position → ℕ
figure Delivered p = p.delivered
figure BoughtIn p = p.bought
figure Cash p = p.cash
figure Paired p = p.paired

-- a position with other figures: what is discharged of it in each manner, and what is open
abbrev pub with_figures : Position → (Manner → ℕ) → ℕ → Position
with_figures p discharged left =
    record {
      member = p.member;
      kind = p.kind;
      security = p.security;
      short = p.short;
      settlement = p.settlement;
      reference = p.reference;
      netted = p.netted;
      delivered = discharged Delivered;
      bought = discharged BoughtIn;
      cash = discharged Cash;
      paired = discharged Paired;
      unsettled = left;
    }

-- a position as it was made: all of it is open
unfoldable pub fresh : Position → Position
fresh p = with_figures p (λ m. 0) p.netted

-- "Let r be today minus S; a position with r at least 0 is due."
unfoldable pub due : ℕ → Position → Bool
due day p = leb p.settlement.0 day

-- a long of a security
unfoldable pub long_of : ℕ → Position → Bool
long_of security p = not p.short && eqb p.security security

-- a long that takes its share: its number, and what is open of it
pub record Taker : Type 0 where
  pub number : ℕ
  pub unsettled : ℕ

-- the longs of a security whose delivery day is d, among positions that are numbered from n
unfoldable pub longs_on : ℕ → ℕ → ℕ → List Position → List Taker
longs_on d security n [] = []
longs_on d security n (p ∷ ps) =
    keep (long_of security p && eqb p.settlement.0 d) (record { number = n; unsettled = p.unsettled })
    (longs_on d security (suc n) ps)

-- "due longs of that security, lowest S first, then lowest number"
unfoldable pub takers : ℕ → ℕ → List Position → List Taker
takers day security ps = each (λ d. longs_on d security 1 ps) (range 0 (suc day))

-- "each taking the smaller of its open quantity and what is left"
unfoldable pub share : Taker → ℕ → ℕ
share t left = min t.unsettled left

-- "Each share above 0 is a piece: short, long, quantity, manner (delivered, bought in, cash), cents."
-- Pieces are dealt first and priced after.
unfoldable pub deal_to : Manner → ℕ → List Taker → ℕ → List Piece
deal_to manner short [] left = []
deal_to manner short (t ∷ ts) left =
    keep (ltb 0 (share t left)) (record { short = short; long = t.number; quantity = share t left; manner = manner; cents = 0 })
    (deal_to manner short ts (left - share t left))

-- the units of a piece that fall to position n, as its short and as its long
unfoldable pub names : ℕ → Piece → ℕ
names n x = only (eqb x.short n) x.quantity + only (eqb x.long n) x.quantity

-- what the pieces take from position n in all, and by one manner
unfoldable pub taken : ℕ → List Piece → ℕ
taken n xs = sum (names n) xs

unfoldable pub taken_by : Manner → ℕ → List Piece → ℕ
taken_by manner n xs = sum (λ x. only (eqb (manner_number x.manner) (manner_number manner)) (names n x)) xs

-- "open quantities, which fall by each piece on both sides"
unfoldable pub lowered : List Piece → ℕ → Position → Position
lowered xs n p = with_figures p (λ m. figure m p + taken_by m n xs) (p.unsettled - taken n xs)

unfoldable pub lowering : List Piece → List Position → List Position
lowering xs ps = number (lowered xs) 1 ps
