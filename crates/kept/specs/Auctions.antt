-- What an event without pieces makes of a book where nothing turns it down; and the ceiling of an auction.
use Rattle.std.specs.Prelude.{ℕ, ◌≡◌}
use Rattle.rules.specs.Prices.{ceiling}
use Rattle.events.specs.declared.Event.{Event}
use Rattle.plain.specs.Book as plain
use Rattle.plain.specs.Calls.{amount, done}
use Rattle.kept.specs.View.{Kept, view, Fits}

-- the book after an event that is accepted, and its quantity
pub record Done (b : Kept) (e : Event) (after : Kept) (units : ℕ) : Type 0 where
  pub book : view after ≡ done (view b) e
  pub fits : Fits after
  pub quantity : units ≡ amount (view b) e

-- "its ceiling comes from the latest price then": of an auction on position n
abbrev pub ceiling_on : plain.Book → ℕ → ℕ
ceiling_on b n =
    let security = (plain.position_of b n).security in
    ceiling (plain.class_of b security) (plain.latest_of b security)
