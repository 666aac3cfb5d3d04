-- The positions that the totals of a member's business make, and what putting them into the table of positions asks and ensures.
use Rattle.std.specs.Prelude.{ℕ, ◌+◌, ◌≤◌, ◌≡◌, ◌≢◌, List, [], ◌++◌, length, None, Option, Some}
use Rattle.laws.specs.Limits.{LAST_DAY, MEMBERS, POSITIONS, SECURITIES}
use Rattle.laws.specs.Lists.{each, range}
use Rattle.laws.specs.declared.BusinessDay.{BusinessDay}
use Rattle.plain.specs.declared.Position.{Position}
use Rattle.plain.specs.declared.Kind.{Kind}
use Rattle.plain.specs.declared.Kind.TheVariants.{Own, Client}
use Rattle.plain.specs.Netting.{Key, net_of}
use Rattle.laws.specs.Asked.{Within}
use Rattle.tables.specs.Tables.{Positions, positions, PositionsFit}
use Rattle.netting.specs.declared.Side.TheVariants.{Sale, Purchase}
use Rattle.netting.specs.declared.Total.{Total}
use Rattle.netting.specs.Gathering.{key_for, total_in}

-- the positions, at most one, of a key's totals
abbrev pub net_from : ℕ → Key → Total → Total → List Position
net_from day k bought sold = net_of day k bought.units bought.highest sold.units sold.highest

abbrev pub net_in : ℕ → List Total → Key → List Position
net_in day totals k = net_from day k (total_in totals Purchase k) (total_in totals Sale k)

-- the positions of a member's business of a kind, by rising security
abbrev pub kind_positions : ℕ → List Total → ℕ → ℕ → Kind → List Position
kind_positions day totals securities member kind = each (λ s. net_in day totals (key_for member kind s)) (range 1 securities)

-- those of its clients' business, where there are totals of it, and of all its business
abbrev pub client_positions : ℕ → Option (List Total) → ℕ → ℕ → List Position
client_positions day None securities member = []
client_positions day (Some client) securities member = kind_positions day client securities member Client

abbrev pub member_positions : ℕ → List Total → Option (List Total) → ℕ → ℕ → List Position
member_positions day own clients securities member = kind_positions day own securities member Own ++ client_positions day clients securities member

pub record Unequal (day : BusinessDay) (bought sold : Total) : Type 0 where
  pub dated : day.0 ≤ LAST_DAY
  pub differ : bought.units ≢ sold.units

pub record KindFits (totals : List Total) (day : BusinessDay) (member : ℕ) (kind : Kind) (securities held : ℕ) : Type 0 where
  pub member_fits : Within 1 MEMBERS member
  pub securities_fit : securities ≤ SECURITIES
  pub dated : day.0 ≤ LAST_DAY
  pub room : held + length (kind_positions day.0 totals securities member kind) ≤ POSITIONS

-- of what each member's positions are
pub record MembersFit (ofMember : ℕ → List Position) (day : BusinessDay) (securities held : ℕ) : Type 0 where
  pub securities_fit : securities ≤ SECURITIES
  pub dated : day.0 ≤ LAST_DAY
  pub room : held + length (each ofMember (range 1 MEMBERS)) ≤ POSITIONS

pub record Appended (table : Positions) (ps : List Position) (r : Positions) : Type 0 where
  pub made : positions r ≡ positions table ++ ps
  pub fits : PositionsFit r
