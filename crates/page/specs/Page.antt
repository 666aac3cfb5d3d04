-- Document 02, Slip 1, 'The desk's page', and Slip 5: the text of a book's positions.
use Rattle.std.specs.Prelude.{ℕ, ◌+◌, ◌-◌, ◌*◌, ◌≤◌, ◌<◌, ◌≡◌, List, [], ◌∷◌, length, get_or, take, drop}
use Rattle.laws.specs.Limits.{POSITIONS, SECURITIES}
use Rattle.laws.specs.Lists.{range, each}
use Rattle.laws.specs.Asked.{Within}
use Rattle.plain.specs.declared.Kind.{Kind}
use Rattle.plain.specs.declared.Kind.TheVariants.{Own, Client}
use Rattle.plain.specs.declared.Position.{Position}
use Rattle.plain.specs.Book.{Book, nth, no_position}
use Rattle.rows.specs.Rows.{rows_of}
use Rattle.report.specs.Digits.{digits}
use Rattle.report.specs.Lines.{side}
use Rattle.page.specs.Columns.{Column, column, columns_from, line, Fits}

-- the 12 bytes of a security's ISIN, as the register keeps them; securities are numbered from 1
abbrev pub isin_of : List ℕ → ℕ → List ℕ
isin_of isins security = take 12 (drop (12 * (security - 1)) isins)

-- "the page shows O or C in column 80" (Slip 5): O is 79, C is 67
abbrev pub kind_letter : Kind → ℕ
kind_letter Own = 79
kind_letter Client = 67

-- "position 1-4, member 6-7, ISIN 9-20, side letter 22, netted 24-32, delivered 34-42, bought in 44-52, cash 54-62, open 64-72, S 74-78"
unfoldable pub columns : List ℕ → ℕ → Position → List Column
columns isins number p =
    column 1 4 (digits number)
    ∷ column 6 7 (digits p.member)
    ∷ column 9 20 (isin_of isins p.security)
    ∷ column 22 22 (side p.short ∷ [])
    ∷ column 24 32 (digits p.netted)
    ∷ column 34 42 (digits p.delivered)
    ∷ column 44 52 (digits p.bought)
    ∷ column 54 62 (digits p.cash)
    ∷ column 64 72 (digits p.unsettled)
    ∷ column 74 78 (digits p.settlement.0)
    ∷ column 80 80 (kind_letter p.kind ∷ [])
    ∷ []

-- the line of a position
unfoldable pub page_line : List ℕ → ℕ → Position → List ℕ
page_line isins number p = line (columns isins number p)

-- the line of number n of some positions
abbrev pub line_of : List ℕ → List Position → ℕ → List ℕ
line_of isins ps n = page_line isins n (nth no_position ps n)

-- "one line each by rising number"
unfoldable pub page_lines : List ℕ → List Position → List ℕ
page_lines isins ps = each (line_of isins ps) (range 1 (length ps))

-- the page of a book: all its positions, with the ISINs of its register
unfoldable pub page_text : Book → List ℕ
page_text b = page_lines b.opening.register.isins b.positions

-- What the lines of the first `count` rows ask: that there are no more than a book has, that the ISINs are there, and that each text fits its column.
pub record Showable (isins rows : List ℕ) (count : ℕ) : Type 0 where
  pub few : count ≤ POSITIONS
  pub isins_long : length isins ≡ 384
  pub security : (i : ℕ) → i < count → Within 1 SECURITIES (get_or (rows_of rows) i no_position).security
  pub fits : (i : ℕ) → i < count → Fits (columns isins (i + 1) (get_or (rows_of rows) i no_position))

-- Unfolding this unfolds all of it, for worked examples.
unfoldable pub computing : Unit {0}
unfolding Rattle.report.specs.Lines.computing columns_from line columns page_line page_lines page_text
computing = tt
