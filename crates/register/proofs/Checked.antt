-- The check digit of an ISIN is the one after its first eleven characters.
use Rattle.std.proofs.Common.{ℕ, ◌≡◌, List, length, get_or, drop, arith, ap, ◌∙◌}
use mathlib.Core.Bool.{Bool, ◌&&◌, and-true}
use Rattle.laws.specs.Lists.{every}
use Rattle.laws.specs.Places.{every_at, every_end}
use Rattle.register.specs.Isin.{is_digit}

pub last_digit : (text : List ℕ) → length text ≡ 12 → every is_digit (drop 11 text) ≡ is_digit (get_or text 11 0)
last_digit text h =
    every_at is_digit text 11 (omega arith)
    ∙ ap (λ (b : Bool). is_digit (get_or text 11 0) && b) (every_end is_digit text 12 (omega arith))
    ∙ and-true (is_digit (get_or text 11 0))
