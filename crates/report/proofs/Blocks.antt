-- Texts of the elements of a list, written one after the other.
use Prim.Native.Nat.{ℕ, zero, suc, ◌+◌, ◌≤◌, ◌<◌, min}
use native.Mathlib.Numerals.{add-one}
use native.Mathlib.Omega.{arith}
use mathlib.Core.Path.{◌≡◌, refl, ap, ap₂, sym, ◌∙◌, subst}
use mathlib.Core.List.{List, [], ◌∷◌, ◌++◌, append-nil}
use lib.ListN.{length, get_or, take, drop, length-append, take-append-drop}
use lib.Seq.{take-suc, take-take, take_all, get_or-take, length-take-le}
use lib.Dec.{ltb}
use borrow.Author.Tests.{ltb-true, ltb-false}
use Rattle.laws.specs.Asked.{Said, passed, failed, ask}
use Rattle.laws.specs.Lists.{each, range}
use Rattle.laws.specs.Listed.{each_append, range_append}
use Rattle.plain.specs.declared.Position.{Position}
use Rattle.plain.proofs.Numbered.{place_nth}
use Rattle.plain.specs.Book.{nth, no_position}
use Rattle.tables.specs.Tables.{Positions, PositionsFit, positions}
use Rattle.report.specs.Lines.{LINE}
use Rattle.report.specs.Pages.{Put, Wrote, lent, back, put_lent, put_length, wrote_lent}

module _ {A : Type 0} (f : A → List ℕ) (xs : List A) (d : A) where
  -- the texts with one more
  pub each_next : (i : ℕ) → i < length xs → each f (take (i + 1) xs) ≡ each f (take i xs) ++ f (get_or xs i d)
  each_next i h =
      ap (λ (k : ℕ). each f (take k xs)) (add-one i) ∙ ap (each f) (take-suc xs i d h) ∙ each_append f (take i xs) (get_or xs i d ∷ [])
      ∙ ap (λ (l : List ℕ). each f (take i xs) ++ l) (append-nil (f (get_or xs i d)))

  -- fewer are no longer
  pub each_shorter : (i n : ℕ) → i ≤ n → length (each f (take i xs)) ≤ length (each f (take n xs))
  each_shorter i n h =
      let cut : each f (take n xs) ≡ each f (take i xs) ++ each f (drop i (take n xs)) =
      ap (each f) (sym (take-append-drop i (take n xs)) ∙ ap (λ (l : List A). l ++ drop i (take n xs)) (take-take i n xs h)) ∙ each_append f (take i xs) (drop i (take n xs)) in
      omega (arith, ap length cut, length-append (each f (take i xs)) (each f (drop i (take n xs))))

  -- there is room for one more
  pub each_room : (i n : ℕ) → i < n → i < length xs → length (each f (take i xs)) + length (f (get_or xs i d)) ≤ length (each f (take n xs))
  each_room i n h l =
      omega (arith, each_shorter (i + 1) n (omega arith), ap length (each_next i l), length-append (each f (take i xs)) (f (get_or xs i d)))

  -- one more is put after the others
  pub put_next : (entry page part : List ℕ) (at m i : ℕ) → i < length xs → Put (each f (take i xs)) entry page at → Put (f (get_or xs i d)) (lent at page) part m
      → Put (each f (take (i + 1) xs)) entry (back at page part) (at + m)
  put_next entry page part at m i h w v =
      subst (λ (l : List ℕ). Put l entry (back at page part) (at + m)) (sym (each_next i h))
      (put_lent (each f (take i xs)) entry page at w (f (get_or xs i d)) part m v)

-- the page of a loop keeps its length
pub kept_length : (text entry page : List ℕ) (at : ℕ) → Put text entry page at → length text ≤ length entry → length page ≡ length entry
kept_length text entry page at w h = put_length text entry page at w (omega (arith, w.bytes))

-- ---- texts by index

-- those of the indices below i, and that of i
range_next : (i : ℕ) → range 0 (i + 1) ≡ range 0 i ++ (i ∷ [])
range_next i = range_append 0 i 1 ∙ ap (λ (n : ℕ). range 0 i ++ (n ∷ [])) (omega arith)

module _ (text : ℕ → List ℕ) where
  pub each_index : (i : ℕ) → each text (range 0 (i + 1)) ≡ each text (range 0 i) ++ text i
  each_index i =
      ap (each text) (range_next i) ∙ each_append text (range 0 i) (i ∷ []) ∙ ap (λ (l : List ℕ). each text (range 0 i) ++ l) (append-nil (text i))

  -- one line more
  pub put_line_more : (entry page part : List ℕ) (at m i : ℕ) → at + LINE ≤ length page → Put (each text (range 0 i)) entry page at → Wrote LINE (text i) (lent at page) part m
      → Put (each text (range 0 (i + 1))) entry (back at page part) (at + m)
  put_line_more entry page part at m i h w v =
      rw (each_index i) (wrote_lent (each text (range 0 i)) entry page at w LINE (text i) part m h v)

-- the texts of the elements at indices are the texts of the elements
pub each_at : {A : Type 0} (f : A → List ℕ) (xs : List A) (d : A) (n : ℕ) → n ≤ length xs → each (λ i. f (get_or xs i d)) (range 0 n) ≡ each f (take n xs)
each_at f xs d zero h = refl
each_at f xs d (suc n) h =
    let text : ℕ → List ℕ = λ i. f (get_or xs i d) in
    ap (λ (k : ℕ). each text (range 0 k)) (sym (add-one n)) ∙ each_index text n ∙ ap (λ (l : List ℕ). l ++ f (get_or xs n d)) (each_at f xs d n (omega arith))
    ∙ sym (each_next f xs d n (omega arith)) ∙ ap (λ (k : ℕ). each f (take k xs)) (add-one n)

-- no more are taken than there are
pub take_min : {A : Type 0} (xs : List A) (n m : ℕ) → length xs ≡ m → take (min n m) xs ≡ take n xs
take_min xs n m e = go (ask (ltb m n))
  where
    go : Said (ltb m n) → take (min n m) xs ≡ take n xs
    go (passed l) =
        let more : m < n = ltb-true m n l in
        take_all (min n m) xs (omega arith) ∙ sym (take_all n xs (omega arith))
    go (failed l) =
        let few : n ≤ m = ltb-false m n l in
        ap (λ (k : ℕ). take k xs) (let same : min n m ≡ n = omega arith in same)

-- texts by index, and by a number that is one more
each_numbered : (f g : ℕ → List ℕ) (a n : ℕ) → ((i : ℕ) → i < a + n → f i ≡ g (suc i)) → each f (range a n) ≡ each g (range (suc a) n)
each_numbered f g a zero h = refl
each_numbered f g a (suc n) h =
    ap₂ (λ (l k : List ℕ). l ++ k) (h a (omega arith)) (each_numbered f g (suc a) n (λ i l. h i (omega arith)))

-- ---- positions by their numbers, each with a line of its number and itself

module _ (line_of : ℕ → Position → List ℕ) where
  -- the line of position number n
  abbrev pub position_text : List Position → ℕ → List ℕ
  position_text ps n = line_of n (nth no_position ps n)

  -- the position at an index, counted from 0, and its line
  position_here : (table : Positions) (i : ℕ) → i < table.count → line_of (i + 1) (get_or table.items i no_position) ≡ position_text (positions table) (suc i)
  unfolding positions
  position_here table i h =
      let p : get_or table.items i no_position ≡ nth no_position (take table.count table.items) (i + 1) =
      sym (place_nth no_position (take table.count table.items) i (i + 1) (add-one i) ∙ get_or-take table.count table.items i no_position h) in
      ap (line_of (i + 1)) p ∙ ap (position_text (take table.count table.items)) (add-one i)

  -- the lines of all of them
  pub positions_all : (table : Positions) → PositionsFit table
      → each (λ i. line_of (i + 1) (get_or table.items i no_position)) (range 0 table.count) ≡ each (position_text (positions table)) (range 1 (length (positions table)))
  unfolding positions
  positions_all table fit =
      each_numbered (λ i. line_of (i + 1) (get_or table.items i no_position)) (position_text (positions table)) 0 table.count (λ i h. position_here table i (omega arith))
      ∙ ap (λ (n : ℕ). each (position_text (positions table)) (range 1 n)) (sym (length-take-le table.count table.items (omega (arith, fit.places, fit.held))))
