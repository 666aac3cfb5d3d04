-- Positions of earlier days stand before those of later ones.
use Rattle.std.specs.Prelude.{ℕ, ◌≤◌, ◌<◌, List, length, get_or}
use Rattle.plain.specs.declared.Position.{Position}
use Rattle.plain.specs.Book.{no_position}

-- delivery days never fall along the positions, so that those of earlier days than this are the ones before a place
pub record LateBefore (day : ℕ) (ps : List Position) (place : ℕ) : Type 0 where
  pub inside : place ≤ length ps
  pub earlier : (j : ℕ) → j < place → (get_or ps j no_position).settlement.0 < day
  pub later : (j : ℕ) → place ≤ j → j < length ps → day ≤ (get_or ps j no_position).settlement.0
