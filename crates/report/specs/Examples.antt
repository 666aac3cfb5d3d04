-- Document 01's example, line by line, a negative amount, and numbers of one digit, of two and of twenty, by computation.
use Rattle.std.specs.Prelude.{ℕ, ◌≡◌, refl, List, [], ◌∷◌, ◌++◌, true, false}
use Rattle.laws.specs.Lists.{each}
use Rattle.plain.specs.declared.Manner.TheVariants.{Delivered}
use Rattle.plain.specs.declared.Kind.TheVariants.{Own}
use Rattle.plain.specs.declared.Position.{Position}
use Rattle.plain.specs.declared.Piece.{Piece}
use Rattle.report.specs.Digits.{digits}
use Rattle.report.specs.Lines.{event_lines, position_lines, account_line, refusal_line, amount, computing}

zero_digits : digits 0 ≡ 48 ∷ []
unfolding computing
zero_digits = refl

nine : digits 9 ≡ 57 ∷ []
unfolding computing
nine = refl

ten : digits 10 ≡ 49 ∷ 48 ∷ []
unfolding computing
ten = refl

longest : digits 18446744073709551615 ≡ 49 ∷ 56 ∷ 52 ∷ 52 ∷ 54 ∷ 55 ∷ 52 ∷ 52 ∷ 48 ∷ 55 ∷ 51 ∷ 55 ∷ 48 ∷ 57 ∷ 53 ∷ 53 ∷ 49 ∷ 54 ∷ 49 ∷ 53 ∷ []
unfolding computing
longest = refl

-- "a 2 -1000", and no sign before zero
negative : account_line 2 (amount true 1000) ≡ 97 ∷ 32 ∷ 50 ∷ 32 ∷ 45 ∷ 49 ∷ 48 ∷ 48 ∷ 48 ∷ 10 ∷ []
unfolding computing
negative = refl

no_sign : account_line 2 (amount true 0) ≡ account_line 2 (amount false 0)
unfolding computing
no_sign = refl

-- "f 7"
refused : refusal_line 7 ≡ 102 ∷ 32 ∷ 55 ∷ 10 ∷ []
unfolding computing
refused = refl

-- the example of document 01: its four events, the last with a piece, and its two positions
piece : Piece
piece = record { short = 1; long = 2; quantity = 100; manner = Delivered; cents = 0 }

short : Position
short =
    record {
      member = 1;
      kind = Own;
      security = 1;
      short = true;
      settlement = record { 0 = 3 };
      reference = 1000;
      netted = 100;
      delivered = 100;
      bought = 0;
      cash = 0;
      paired = 0;
      unsettled = 0;
    }

long : Position
long =
    record {
      member = 2;
      kind = Own;
      security = 1;
      short = false;
      settlement = record { 0 = 3 };
      reference = 1000;
      netted = 100;
      delivered = 100;
      bought = 0;
      cash = 0;
      paired = 0;
      unsettled = 0;
    }

output : List ℕ
output =
    event_lines 1 0 100 [] ++ event_lines 2 0 0 [] ++ event_lines 3 0 0 [] ++ event_lines 4 0 100 (piece ∷ []) ++ position_lines (short ∷ long ∷ [])

printed : List ℕ
printed =
    each (λ l. l)
    ((101 ∷ 32 ∷ 49 ∷ 32 ∷ 48 ∷ 32 ∷ 49 ∷ 48 ∷ 48 ∷ 10 ∷ [])
    ∷ (101 ∷ 32 ∷ 50 ∷ 32 ∷ 48 ∷ 32 ∷ 48 ∷ 10 ∷ [])
    ∷ (101 ∷ 32 ∷ 51 ∷ 32 ∷ 48 ∷ 32 ∷ 48 ∷ 10 ∷ [])
    ∷ (101 ∷ 32 ∷ 52 ∷ 32 ∷ 48 ∷ 32 ∷ 49 ∷ 48 ∷ 48 ∷ 10 ∷ [])
    ∷ (112 ∷ 32 ∷ 49 ∷ 32 ∷ 50 ∷ 32 ∷ 49 ∷ 48 ∷ 48 ∷ 32 ∷ 48 ∷ 10 ∷ [])
    ∷ (115 ∷ 32 ∷ 49 ∷ 32 ∷ 49 ∷ 32 ∷ 68 ∷ 32 ∷ 49 ∷ 48 ∷ 48 ∷ 32 ∷ 49 ∷ 48 ∷ 48 ∷ 32 ∷ 48 ∷ 32 ∷ 48 ∷ 32 ∷ 48 ∷ 32 ∷ 48 ∷ 10 ∷ [])
    ∷ (115 ∷ 32 ∷ 50 ∷ 32 ∷ 50 ∷ 32 ∷ 82 ∷ 32 ∷ 49 ∷ 48 ∷ 48 ∷ 32 ∷ 49 ∷ 48 ∷ 48 ∷ 32 ∷ 48 ∷ 32 ∷ 48 ∷ 32 ∷ 48 ∷ 32 ∷ 48 ∷ 10 ∷ [])
    ∷ [])

example : output ≡ printed
unfolding computing output printed piece short long
example = refl
