-- How a refusal number and a quantity are answered as one number.
use Rattle.std.specs.Prelude.{ℕ, ◌+◌, ◌*◌}

-- the refusal number in the upper half, the quantity in the lower
abbrev pub packed : ℕ → ℕ → ℕ
packed number quantity = 4294967296 * number + quantity
