-- Document 01, 'The forms we expect': "a 64-bit word per security, one bit a member, tested at each offer". The words are kept from day to
-- day, and beside them, for each security and member, how many shorts make the member a failing one.
use Rattle.std.specs.Prelude.{ℕ, ◌+◌, ◌-◌, ◌*◌, ◌^◌, ◌≤◌, ◌<◌, ◌≡◌, ◌≢◌, true, not, cond, ◌&&◌, List, eqb, length, get_or}
use Rattle.laws.specs.Limits.{ACCOUNTS, COUNT_CELLS, MEMBERS, SECURITIES}
use Rattle.laws.specs.Lists.{All, only, sum}
use Rattle.plain.specs.declared.Position.{Position}
use Rattle.plain.specs.Book.{no_position, nth}
use Rattle.laws.specs.Asked.{Within}
use Rattle.tables.specs.Tables.{Positions, positions, PositionsFit}
use Rattle.plain.specs.Auction.{late}
use Rattle.failing.specs.Members.{bit, FailingWord}

-- 1 where the position is "a short in it with open above 0 and r at least 1" and the member holds it
abbrev pub late_short : ℕ → ℕ → ℕ → Position → ℕ
late_short day security member p = only (late day security p && eqb p.member member) 1

-- how many such shorts the member holds
unfoldable pub late_shorts : ℕ → List Position → ℕ → ℕ → ℕ
late_shorts day ps security member = sum (late_short day security member) ps

-- the place of a security and a member among the counts: 64 for each security
abbrev pub count_place : ℕ → ℕ → ℕ
count_place security member = ACCOUNTS * (security - 1) + member

-- a word of failing members for each of 32 securities, and a count of late open shorts for each security and member
pub record Counted (day : ℕ) (ps : List Position) (words counts : List ℕ) : Type 0 where
  pub securities : length words ≡ SECURITIES
  pub places : length counts ≡ COUNT_CELLS
  pub failing : (s : ℕ) → Within 1 SECURITIES s → FailingWord day ps s (nth 0 words s)
  pub counted : (s m : ℕ) → Within 1 SECURITIES s → m ≤ MEMBERS → get_or counts (count_place s m) 0 ≡ late_shorts day ps s m

-- units of a discharge of position n, which is the short p
pub record UnitsOf (ps : List Position) (n : ℕ) (p : Position) (quantity : ℕ) : Type 0 where
  pub held : Within 1 (length ps) n
  pub is : p ≡ nth no_position ps n
  pub short : p.short ≡ true
  pub above : 0 < quantity
  pub enough : quantity ≤ p.unsettled

-- what a discharge of q units of position n makes of the positions, as far as it matters to who is failing
pub record Lowered (day : ℕ) (ps qs : List Position) (n q : ℕ) : Type 0 where
  pub long : length qs ≡ length ps
  pub members : (j : ℕ) → j < length ps → (get_or qs j no_position).member ≡ (get_or ps j no_position).member
  pub others : (j s : ℕ) → j < length ps → j ≢ n - 1 → late day s (get_or qs j no_position) ≡ late day s (get_or ps j no_position)
  pub short : (nth no_position qs n).short ≡ (nth no_position ps n).short
  pub security : (nth no_position qs n).security ≡ (nth no_position ps n).security
  pub settlement : (nth no_position qs n).settlement.0 ≡ (nth no_position ps n).settlement.0
  pub unsettled : (nth no_position qs n).unsettled ≡ (nth no_position ps n).unsettled - q

-- a security and a member that have a word and a count
pub record HasCount (words counts : List ℕ) (security member : ℕ) : Type 0 where
  pub securities : length words ≡ SECURITIES
  pub places : length counts ≡ COUNT_CELLS
  pub within : Within 1 SECURITIES security
  pub below : member ≤ MEMBERS

-- the positions of a table, each with a place for its security and member
pub record Numbered (table : Positions) : Type 0 where
  pub fit : PositionsFit table
  pub members : All (λ p. p.member ≤ MEMBERS) (positions table)
  pub securities : All (λ p. Within 1 SECURITIES p.security) (positions table)

-- the member holds one late open short in the security more, and all else is as it was
unfoldable pub OneMore : ℕ → List Position → ℕ → List Position → ℕ → ℕ → Type 0
OneMore day ps next qs security member =
    (s m : ℕ) → late_shorts next qs s m ≡ late_shorts day ps s m + only (eqb security s && eqb member m) 1

-- a word with one bit turned
pub record Turned (word member r : ℕ) : Type 0 where
  pub fits : r < 2 ^ 64
  pub bits : (m : ℕ) → bit r m ≡ cond (eqb member m) (not (bit word m)) (bit word m)
