-- What holds of the desk's page after every history: nothing is ever cut off, and what it shows can be read back.
use Rattle.std.specs.Prelude.{ℕ, ◌-◌, ◌*◌, ◌≡◌, ◌≢◌, List, [], ◌∷◌, length}
use Rattle.laws.specs.Asked.{Within}
use Rattle.plain.specs.declared.Position.{Position}
use Rattle.register.specs.Register.{isin_at}
use Rattle.plain.specs.Book.{Book, position_of, opening_read, new}
use Rattle.plain.specs.Calls.{Call}
use Rattle.plain.specs.Histories.{run}
use Rattle.report.specs.Lines.{side}
use Rattle.page.specs.Columns.{LINE, Fits, places_of, figure_in}
use Rattle.page.specs.Page.{isin_of, kind_letter, columns, page_line, page_text}
use Rattle.page.specs.Answer.{end_of, page_refusal, page_answer}

-- the line of position number n
pub record Legible (isins : List ℕ) (n : ℕ) (p : Position) : Type 0 where
  -- each text fits its column
  pub fits : Fits (columns isins n p)
  pub bytes : length (page_line isins n p) ≡ LINE
  -- the digits of a column read back give the figure
  pub number : figure_in 1 4 (page_line isins n p) ≡ n
  pub member : figure_in 6 7 (page_line isins n p) ≡ p.member
  pub isin : places_of 9 20 (page_line isins n p) ≡ isin_of isins p.security
  pub letter : places_of 22 22 (page_line isins n p) ≡ side p.short ∷ []
  pub netted : figure_in 24 32 (page_line isins n p) ≡ p.netted
  pub delivered : figure_in 34 42 (page_line isins n p) ≡ p.delivered
  pub bought : figure_in 44 52 (page_line isins n p) ≡ p.bought
  pub cash : figure_in 54 62 (page_line isins n p) ≡ p.cash
  pub unsettled : figure_in 64 72 (page_line isins n p) ≡ p.unsettled
  pub settlement : figure_in 74 78 (page_line isins n p) ≡ p.settlement.0
  pub kind : places_of 80 80 (page_line isins n p) ≡ kind_letter p.kind ∷ []

-- the page of a book
pub record LegiblePage (b : Book) : Type 0 where
  pub lines : (n : ℕ) → Within 1 (length b.positions) n → Legible b.opening.register.isins n (position_of b n)
  pub bytes : length (page_text b) ≡ LINE * length b.positions

-- the page after a list of calls on the book that opens on a register's bytes
pub record EveryPage (register : List ℕ) (cs : List Call) : Type 0 where
  pub legible : LegiblePage (run (new (opening_read register)) cs)
  -- the ISIN that is shown is the one that the register's bytes have for the position's security
  pub isins : (n : ℕ) → Within 1 (length (run (new (opening_read register)) cs).positions) n → let b = run (new (opening_read register)) cs in
      isin_of b.opening.register.isins (position_of b n).security ≡ isin_at register ((position_of b n).security - 1)

-- "The call answers the bytes written (0 or at least 81), or the refusal number": an answer tells which of the two it is
pub record Told (register file page : List ℕ) : Type 0 where
  pub written : page_refusal register file (length page) ≡ 0 → page_answer register file page ≡ LINE * length (end_of register file).positions
  pub refused : page_refusal register file (length page) ≢ 0 → (page_answer register file page ≡ page_refusal register file (length page)) × (Within 1 31 (page_answer register file page))
