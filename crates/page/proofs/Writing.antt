-- A line written column by column over blanks, and lines one after the other.
use Prim.Native.Nat.{ℕ, ◌+◌, ◌-◌, ◌*◌, ◌≤◌, ◌<◌}
use native.Mathlib.Omega.{arith}
use mathlib.Core.Path.{◌≡◌, ap, sym, ◌∙◌}
use mathlib.Core.List.{List, ◌++◌}
use mathlib.Core.Bool.{true}
use lib.ListN.{length, get_or, drop}
use lib.Seq.{sets, length-sets}
use Rattle.laws.specs.Lists.{each, range}
use Rattle.laws.specs.Alls.{all_at}
use Rattle.report.specs.Pages.{Put, lent, back, back_length, put_count, put_text, put_lent}
use Rattle.report.proofs.Blocks.{each_index}
use Rattle.page.specs.Columns.{Column, width, LINE, line, Fits, in_order}
use Rattle.page.proofs.Laying.{laid, adding, line_next, nowhere}

-- some columns are written into the line at the start of a page
pub record Written (entry page : List ℕ) (cs : List Column) : Type 0 where
  pub text : page ≡ line cs ++ drop LINE entry
  pub long : length page ≡ length entry

-- one more is
pub next_written : (cs : List Column) (c : Column) (entry page after : List ℕ) → in_order 1 (adding cs c) ≡ true → Fits (adding cs c)
    → Written entry page cs → after ≡ sets page (c.last - length c.text) c.text → Written entry after (adding cs c)
next_written cs c entry page after order fits w e =
    record {
      text = e ∙ ap (λ (l : List ℕ). sets l (c.last - length c.text) c.text) w.text ∙ line_next cs c (drop LINE entry) (laid 1 (adding cs c) order fits);
      long = ap length e ∙ length-sets page (c.last - length c.text) c.text ∙ w.long;
    }

-- a column has room for its text
pub room : (cs : List Column) (i : ℕ) → Fits cs → i < length cs → (get_or cs i nowhere).first ≤ (get_or cs i nowhere).last + 1
    → (get_or cs i nowhere).first + length (get_or cs i nowhere).text ≤ (get_or cs i nowhere).last + 1
room cs i fits h l = omega (arith, all_at (λ c. length c.text ≤ width c) cs i nowhere h fits)

-- ---- lines one after the other, of 81 bytes each: those of the indices below i

module _ (text : ℕ → List ℕ) (entry : List ℕ) where
  pub record Lines (page : List ℕ) (i : ℕ) : Type 0 where
    pub long : length page ≡ length entry
    pub put : Put (each text (range 0 i)) entry page (LINE * i)

  module _ (page : List ℕ) (i : ℕ) (w : Lines page i) where
    -- one line more, written into the part of the page that begins where the others end
    pub next_lines : (line part : List ℕ) → line ≡ text i → length line ≡ LINE → length part ≡ length (lent (LINE * i) page)
        → part ≡ line ++ drop LINE (lent (LINE * i) page) → Lines (back (LINE * i) page part) (i + 1)
    next_lines line part is bytes same e =
        let at = LINE * i in
        let put : Put line (lent at page) part LINE = record { bytes = sym bytes; page = e ∙ ap (λ (n : ℕ). line ++ drop n (lent at page)) (sym bytes) } in
        let more = put_lent (each text (range 0 i)) entry page at w.put (text i) part LINE (put_text _ _ (lent at page) part LINE is put) in
        record {
          long = back_length at page part same ∙ w.long;
          put = put_count _ entry (back at page part) (at + LINE) (LINE * (i + 1)) (omega arith) (put_text _ _ entry (back at page part) (at + LINE) (sym (each_index text i)) more);
        }

  -- all of them
  pub all_lines : (page : List ℕ) (i count : ℕ) → Lines page i → i ≡ count → page ≡ each text (range 0 count) ++ drop (LINE * count) entry
  all_lines page i count w e =
      let put = rw e at w.put in
      put.page ∙ ap (λ (n : ℕ). each text (range 0 count) ++ drop n entry) (sym put.bytes)
