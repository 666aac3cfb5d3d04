-- A line of columns: a text stands at the right end of its column, and blanks everywhere else.
use Rattle.std.specs.Prelude.{ℕ, ◌+◌, ◌-◌, ◌≤◌, List, [], ◌∷◌, ◌++◌, length, take, drop, replicate, leb, eqb, Bool, not, ◌&&◌}
use Rattle.laws.specs.Lists.{All, filter}
use Rattle.report.specs.Digits.{value}

-- a column: its first and its last place in the line, counted from 1, and its text
pub record Column : Type 0 where
  pub first : ℕ
  pub last : ℕ
  pub text : List ℕ

abbrev pub column : ℕ → ℕ → List ℕ → Column
column first last text = record { first = first; last = last; text = text }

-- how many places a column has
abbrev pub width : Column → ℕ
width c = c.last + 1 - c.first

abbrev pub blanks : ℕ → List ℕ
blanks n = replicate n 32

-- "right-aligned with blanks": a text in so many places
abbrev pub right_aligned : ℕ → List ℕ → List ℕ
right_aligned places text = blanks (places - length text) ++ text

-- "an 80-column page"
abbrev pub COLUMNS : ℕ
COLUMNS = 80

-- columns in their order, from a place of the line on: "Columns between and after are blanks"
unfoldable pub columns_from : ℕ → List Column → List ℕ
columns_from place [] = blanks (COLUMNS + 1 - place)
columns_from place (c ∷ cs) = blanks (c.first - place) ++ (right_aligned (width c) c.text ++ columns_from (c.last + 1) cs)

-- "and a line feed ends each line"
unfoldable pub line : List Column → List ℕ
line cs = columns_from 1 cs ++ (10 ∷ [])

-- a line has so many bytes, its line feed among them
abbrev pub LINE : ℕ
LINE = 81

-- each text fits its column
abbrev pub Fits : List Column → Type 0
Fits cs = All (λ c. length c.text ≤ width c) cs

-- whether columns follow each other from a place of the line on, without overlapping, within the line
abbrev pub in_order : ℕ → List Column → Bool
in_order place [] = leb place (COLUMNS + 1)
in_order place (c ∷ cs) = leb place c.first && leb c.first c.last && in_order (c.last + 1) cs

-- what is read back from the places of a column: the bytes that stand there, and the number that their digits give, blanks left out
abbrev pub places_of : ℕ → ℕ → List ℕ → List ℕ
places_of first last text = take (last + 1 - first) (drop (first - 1) text)

abbrev pub figure_in : ℕ → ℕ → List ℕ → ℕ
figure_in first last text = value (filter (λ byte. not (eqb byte 32)) (places_of first last text))
