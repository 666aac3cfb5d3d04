-- What a discharge does that nothing turns down.
use Rattle.std.specs.Prelude.{ℕ, ◌≡◌}
use Rattle.laws.specs.Limits.{PLACES}
use Rattle.events.specs.declared.Event.{Event}
use Rattle.plain.specs.Book as plain
use Rattle.plain.specs.Calls.{call, hands_out, amount, done}
use Rattle.plain.specs.Refusals.{refusal}
use Rattle.tables.specs.declared.Pieces.{Pieces}
use Rattle.tables.specs.Tables as table
use Rattle.kept.specs.View.{Kept, view, Fits, Valid}

-- a discharge that nothing turns down, whatever sheet of 1,024 places or more is lent
pub record Dischargeable (b : Kept) (e : Event) : Type 0 where
  pub valid : Valid b
  pub taken : refusal (view b) (call e PLACES) ≡ 0

-- what a cash settlement of position n goes by: all that is open, and the class and the latest price of its security
pub record Terms (b : plain.Book) (n units class price : ℕ) : Type 0 where
  pub unsettled : units ≡ (plain.position_of b n).unsettled
  pub classed : class ≡ plain.class_of b (plain.position_of b n).security
  pub latest : price ≡ plain.latest_of b (plain.position_of b n).security

-- what a discharge makes of the book, its quantity and its pieces
pub record Done (b : Kept) (e : Event) (after : Kept) (units : ℕ) (dealt : Pieces) : Type 0 where
  pub book : view after ≡ done (view b) e
  pub fits : Fits after
  pub quantity : units ≡ amount (view b) e
  pub pieces : table.pieces dealt ≡ hands_out (view b) e
  pub pieces_fit : table.PiecesFit dealt
