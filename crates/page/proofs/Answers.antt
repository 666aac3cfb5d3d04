-- What showing a book answers and leaves of the page, by what was found before.
use Prim.Native.Nat.{ℕ, ◌+◌, ◌*◌, ◌≤◌, ◌<◌}
use native.Mathlib.Numerals.{add-one}
use native.Mathlib.Omega.{arith}
use mathlib.Core.Path.{◌≡◌, ap, sym, ◌∙◌}
use mathlib.Core.List.{List, [], ◌∷◌, ◌++◌}
use lib.ListN.{length, get_or, drop}
use lib.Seq.{get_or-take, length-take-le}
use borrow.Author.Tests.{lt-ltb, le-ltb}
use Rattle.std.proofs.Common.{Result, Ok, Err, ◌≢◌}
use Rattle.laws.specs.Answers.{number, number_some, answer, answer_refused}
use Rattle.laws.specs.Refusals.{◌⇒◌, first, accepted_not}
use Rattle.laws.specs.declared.Refusal.{Refusal}
use Rattle.laws.specs.declared.Refusal.TheVariants.{ShortPage}
use Rattle.laws.specs.Asked.{Within}
use Rattle.plain.specs.Book.{Book, no_position, position_of}
use Rattle.plain.proofs.Numbered.{place_nth}
use Rattle.rows.specs.Rows.{rows_of}
use Rattle.tables.specs.Tables.{positions}
use Rattle.kept.specs.View.{view}
use Rattle.machine.specs.declared.Core.{Core}
use Rattle.machine.specs.declared.Numbers.{Numbers}
use Rattle.machine.specs.View.{book_of, Held}
use Rattle.replay.specs.Replay.{replay_refusal, decides}
use Rattle.page.specs.Columns.{LINE}
use Rattle.page.specs.Page.{page_text, Showable}
use Rattle.page.specs.Answer.{end_of, too_short, page_refusal, left, page_after, Shown}
use Rattle.page.proofs.Legible.{Small, small, small_fits, legible_page}

-- ---- a book, by the length of the page

pub none_shown : (b : Book) (page : List ℕ) → length page < LINE * length b.positions → Shown b page page (Err ShortPage)
unfolding left
none_shown b page h =
    let e = lt-ltb (length page) (LINE * length b.positions) h in
    record { answer = rw e; page' = rw e }

pub all_shown : (b : Book) (page after : List ℕ) (r : ℕ) → LINE * length b.positions ≤ length page → length (page_text b) ≡ r → after ≡ page_text b ++ drop r page → Shown b page after (Ok r)
unfolding left
all_shown b page after r h bytes e =
    let long = le-ltb (length page) (LINE * length b.positions) h in
    record { answer = rw long (ap Ok (sym bytes)); page' = rw long (e ∙ ap (λ (n : ℕ). page_text b ++ drop n page) (sym bytes)) }

-- ---- a core with its numbers

module _ (core : Core) (a : Numbers) (held : Held core a) where
  pub as_many : length (book_of core a).positions ≡ core.positions
  unfolding view positions
  as_many =
      let fits = held.valid.fits.positions in
      length-take-le core.positions (rows_of a.rows) (omega (arith, fits.places, fits.held))

  -- each row is that of a position that is there
  row_small : (i : ℕ) → i < core.positions → Small core.opening.register.isins (i + 1) (get_or (rows_of a.rows) i no_position)
  unfolding view positions
  row_small i h =
      let b = book_of core a in
      let there : Within 1 (length b.positions) (i + 1) = record { above = omega arith; below = omega (arith, as_many) } in
      let same : position_of b (i + 1) ≡ get_or (rows_of a.rows) i no_position = place_nth no_position b.positions i (i + 1) (add-one i) ∙ get_or-take core.positions (rows_of a.rows) i no_position h in
      rw same at (small b held.valid.fits.register held.valid.sound (i + 1) there)

  pub showable : Showable core.opening.register.isins a.rows core.positions
  showable =
      record {
        few = held.valid.fits.positions.held;
        isins_long = held.valid.fits.register.isins_long;
        security = λ i h. (row_small i h).security;
        fits = λ i h. small_fits core.opening.register.isins (i + 1) (get_or (rows_of a.rows) i no_position) (row_small i h);
      }

  -- the bytes of its page
  pub page_bytes : length (page_text (book_of core a)) ≡ LINE * core.positions
  unfolding view
  page_bytes = (legible_page (book_of core a) held.valid.fits.register held.valid.sound).bytes ∙ ap (λ (n : ℕ). LINE * n) as_many

-- ---- register and file

module _ (register file page : List ℕ) where
  abbrev answered : Result ℕ Refusal
  answered = answer (page_refusal register file (length page)) (length (page_text (end_of register file)))

  pub refused : (r : Refusal) → number r ≡ replay_refusal register file → (Err r ≡ answered) × (page ≡ page_after register file page)
  unfolding page_refusal page_after left
  refused r e =
      let n = page_refusal register file (length page) in
      let same : n ≡ number r = decides (replay_refusal register file) (first ((too_short (end_of register file) (length page) ⇒ 31) ∷ [])) (λ z. number_some r (e ∙ z)) ∙ sym e in
      let other : n ≢ 0 = λ z. number_some r (sym same ∙ z) in
      (answer_refused n _ r (sym same), sym (accepted_not n _ page other))

  pub taken : (after : List ℕ) (r : Result ℕ Refusal) → 0 ≡ replay_refusal register file → Shown (end_of register file) page after r → (r ≡ answered) × (after ≡ page_after register file page)
  unfolding page_refusal page_after
  taken after r e s = rw (← e) (s.answer, s.page')
