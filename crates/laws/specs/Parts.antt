-- A list of which parts are written one after the other.
use Rattle.std.specs.Prelude.{ℕ, zero, suc, ◌+◌, ◌≤◌, ◌<◌, ◌≡◌, refl, List, [], ◌∷◌, ◌++◌, map, length, get_or, take, drop, set, replicate}
use Rattle.std.proofs.Common.{zero-add, arith, ap, sym, ◌∙◌, get_or-take, get_or-drop, drop-cons}
use Rattle.std.proofs.lemmas.List.Edits.{sets, sets-eq}
use Rattle.std.proofs.Math.Seq.{take-nil}
use Rattle.laws.specs.Lists.{All, range}

module _ {A : Type 0} where
  -- the first n elements, and z for each that is missing
  abbrev pub padded : A → ℕ → List A → List A
  padded z zero l = []
  padded z (suc n) [] = z ∷ padded z n []
  padded z (suc n) (x ∷ l) = x ∷ padded z n l

  pub padded_none : (z : A) (n : ℕ) → padded z n [] ≡ replicate n z
  padded_none z zero = refl
  padded_none z (suc n) = ap (λ (k : List A). z ∷ k) (padded_none z n)

  pub length_padded : (z : A) (n : ℕ) (l : List A) → length (padded z n l) ≡ n
  length_padded z zero l = refl
  length_padded z (suc n) [] = ap suc (length_padded z n [])
  length_padded z (suc n) (x ∷ l) = ap suc (length_padded z n l)

  pub get_or_padded : (z : A) (n : ℕ) (l : List A) (i : ℕ) → i < n → get_or (padded z n l) i z ≡ get_or l i z
  get_or_padded z zero l i h = absurd (omega arith)
  get_or_padded z (suc n) [] zero h = refl
  get_or_padded z (suc n) [] (suc i) h = get_or_padded z n [] i (omega arith)
  get_or_padded z (suc n) (x ∷ l) zero h = refl
  get_or_padded z (suc n) (x ∷ l) (suc i) h = get_or_padded z n l i (omega arith)

  -- a list of no more than n elements, copied over the first of n times z
  pub padded_copied : (z : A) (n : ℕ) (l : List A) → length l ≤ n → l ++ drop (length l) (replicate n z) ≡ padded z n l
  padded_copied z n [] h = sym (padded_none z n)
  padded_copied z zero (x ∷ l) h = absurd (omega arith)
  padded_copied z (suc n) (x ∷ l) h = ap (λ (k : List A). x ∷ k) (padded_copied z n l (omega arith))

  -- one element more is stored
  pub padded_more : (z : A) (n i : ℕ) (l : List A) → i < n → set (padded z n (take i l)) i (get_or l i z) ≡ padded z n (take (suc i) l)
  padded_more z zero i l h = absurd (omega arith)
  padded_more z (suc n) zero [] h = refl
  padded_more z (suc n) zero (x ∷ l) h = refl
  padded_more z (suc n) (suc i) [] h =
      ap (λ (k : List A). z ∷ k) (ap (λ (k : List A). set (padded z n k) i z) (sym (take-nil i)) ∙ padded_more z n i [] (omega arith) ∙ ap (padded z n) (take-nil (suc i)))
  padded_more z (suc n) (suc i) (x ∷ l) h = ap (λ (k : List A). x ∷ k) (padded_more z n i l (omega arith))

  -- what stands past n is not read
  pub padded_take : (z : A) (n i : ℕ) (l : List A) → n ≤ i → padded z n (take i l) ≡ padded z n l
  padded_take z zero i l h = refl
  padded_take z (suc n) zero l h = absurd (omega arith)
  padded_take z (suc n) (suc i) [] h = refl
  padded_take z (suc n) (suc i) (x ∷ l) h = ap (λ (k : List A). x ∷ k) (padded_take z n i l (omega arith))

  -- the list itself stands at the front
  pub take_padded : (z : A) (n : ℕ) (l : List A) → length l ≤ n → take (length l) (padded z n l) ≡ l
  take_padded z zero [] h = refl
  take_padded z zero (x ∷ l) h = absurd (omega arith)
  take_padded z (suc n) [] h = refl
  take_padded z (suc n) (x ∷ l) h = ap (λ (k : List A). x ∷ k) (take_padded z n l (omega arith))

  -- a part written where the part before it ends
  pub sets_append : (l vs ws : List A) (i j : ℕ) → j ≡ i + length vs → sets (sets l i vs) j ws ≡ sets l i (vs ++ ws)
  sets_append l [] ws i j e = ap (λ (k : ℕ). sets l k ws) (omega arith)
  sets_append l (v ∷ vs) ws i j e = sets_append (set l i v) vs ws (suc i) j (omega arith)

  -- the same of lists that are named
  pub sets_then : (l m n vs ws : List A) (i j : ℕ) → m ≡ sets l i vs → n ≡ sets m j ws → j ≡ i + length vs → n ≡ sets l i (vs ++ ws)
  sets_then l m n vs ws i j e f h = f ∙ ap (λ (k : List A). sets k j ws) e ∙ sets_append l vs ws i j h

  -- a part written at the start of a list that is long enough
  pub sets_front : (l vs : List A) → length vs ≤ length l → sets l 0 vs ≡ vs ++ drop (length vs) l
  sets_front l vs h = sets-eq vs l 0 (omega arith) ∙ ap (λ (k : ℕ). vs ++ drop k l) (zero-add (length vs))

  -- an element of the n that stand from a place on
  pub get_or_part : (l : List A) (at n j : ℕ) (d : A) → j < n → get_or (take n (drop at l)) j d ≡ get_or l (at + j) d
  get_or_part l at n j d h = get_or-take n (drop at l) j d h ∙ get_or-drop at l j d

  -- those n, element by element
  pub read_part : (l : List A) (d : A) (at n : ℕ) → at + n ≤ length l → map (λ j. get_or l j d) (range at n) ≡ take n (drop at l)
  read_part l d at zero h = refl
  read_part l d at (suc n) h =
      rw (drop-cons l at d (omega arith)) (ap (λ (k : List A). get_or l at d ∷ k) (read_part l d (suc at) n (omega arith)))

  pub all_drop : (P : A → Type 0) (n : ℕ) (l : List A) → All P l → All P (drop n l)
  all_drop P zero l h = h
  all_drop P (suc n) [] h = tt
  all_drop P (suc n) (x ∷ l) h = all_drop P n l h.1

  pub all_take : (P : A → Type 0) (n : ℕ) (l : List A) → All P l → All P (take n l)
  all_take P zero l h = tt
  all_take P (suc n) [] h = tt
  all_take P (suc n) (x ∷ l) h = (h.0, all_take P n l h.1)
