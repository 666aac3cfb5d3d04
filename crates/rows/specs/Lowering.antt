-- Document 01, 'Discharge and pieces': a position of which units are discharged.
use Rattle.std.specs.Prelude.{ℕ, ◌+◌, ◌-◌, ◌≤◌, eqb}
use Rattle.laws.specs.Limits.{MOST_NETTED}
use Rattle.laws.specs.Lists.{only}
use Rattle.plain.specs.declared.Position.{Position}
use Rattle.plain.specs.declared.Manner.{Manner}
use Rattle.plain.specs.declared.Manner.TheVariants.{Delivered, BoughtIn, Cash, Paired}
use Rattle.plain.specs.Dealing.{manner_number, figure, with_figures}
use Rattle.plain.specs.Invariants.{Whole}

-- the units, where they are discharged in the manner that the figure is kept for
abbrev pub in_manner : Manner → Manner → ℕ → ℕ
in_manner manner figure units = only (eqb (manner_number manner) (manner_number figure)) units

-- a position of which units are discharged in a manner: its open quantity falls, and the figure of that manner rises
unfoldable pub lowered_by : Manner → ℕ → Position → Position
lowered_by manner units p = with_figures p (λ m. figure m p + in_manner manner m units) (p.unsettled - units)

-- figures that add up to a netted quantity of at most 512 trades of at most 1,000,000 units
pub record Sized (p : Position) : Type 0 where
  pub whole : Whole p
  pub bounded : p.netted ≤ MOST_NETTED

-- units that may be discharged of a position
pub record Lowerable (p : Position) (units : ℕ) : Type 0 where
  pub enough : units ≤ p.unsettled
  pub sized : Sized p

-- where among the numbers of a position the figure of a manner stands
abbrev pub figure_column : Manner → ℕ
figure_column Delivered = 6
figure_column BoughtIn = 7
figure_column Cash = 8
figure_column Paired = 9
