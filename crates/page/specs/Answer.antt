-- Document 02, Slip 1, 'The desk's page': what the call answers, and what it leaves of the page.
use Rattle.std.specs.Prelude.{ℕ, ◌*◌, ◌≡◌, Bool, List, [], ◌∷◌, ◌++◌, length, drop, ltb, Result}
use Rattle.laws.specs.Answers.{answer}
use Rattle.laws.specs.Refusals.{◌⇒◌, first, accepted}
use Rattle.laws.specs.declared.Refusal.{Refusal}
use Rattle.laws.specs.WordLaws.{nonzero}
use Rattle.files.specs.File.{events_of}
use Rattle.plain.specs.Book.{Book, opening_read, new}
use Rattle.plain.specs.Histories.{run, calls_of}
use Rattle.replay.specs.Replay.{replay_refusal}
use Rattle.page.specs.Columns.{LINE}
use Rattle.page.specs.Page.{page_text}

-- "The file is played on a new book": the book at its end
abbrev pub end_of : List ℕ → List ℕ → Book
end_of register file = run (new (opening_read register)) (calls_of (events_of file))

-- "It refuses with 31 .. a page under 81 bytes a position": a page of so many bytes
abbrev pub too_short : Book → ℕ → Bool
too_short b room = ltb room (LINE * length b.positions)

-- "after 1 to 7 and before writing anything"
unfoldable pub page_refusal : List ℕ → List ℕ → ℕ → ℕ
page_refusal register file room =
    first
    ((nonzero (replay_refusal register file) ⇒ replay_refusal register file)
    ∷ (too_short (end_of register file) room ⇒ 31)
    ∷ [])

-- "The call answers the bytes written (0 or at least 81), or the refusal number."
unfoldable pub answered : ℕ → Book → ℕ
answered number b = let written = length (page_text b) in accepted number written number

-- "Bytes after the last line keep their content."; where the call refuses, the whole page does
unfoldable pub left : ℕ → Book → List ℕ → List ℕ
left number b page =
    let shown = page_text b ++ drop (length (page_text b)) page in
    accepted number shown page

-- both of a register, a file and a page
unfoldable pub page_answer : List ℕ → List ℕ → List ℕ → ℕ
page_answer register file page = answered (page_refusal register file (length page)) (end_of register file)

unfoldable pub page_after : List ℕ → List ℕ → List ℕ → List ℕ
page_after register file page = left (page_refusal register file (length page)) (end_of register file) page

-- what showing a book answers and leaves of a page, where nothing was refused before: two equations
pub record Shown (b : Book) (page after : List ℕ) (r : Result ℕ Refusal) : Type 0 where
  pub answer : r ≡ answer (first ((too_short b (length page) ⇒ 31) ∷ [])) (length (page_text b))
  pub page' : after ≡ left (first ((too_short b (length page) ⇒ 31) ∷ [])) b page
