-- Lists: a choice, a sum, the highest number, a range, a list made of lists, a list whose elements are numbered.
use Rattle.std.specs.Prelude.{ℕ, zero, suc, ◌+◌, max, List, [], ◌∷◌, ◌++◌, Bool, true, false, ◌&&◌, ◌||◌}

-- n where the test passes, else 0
abbrev pub only : Bool → ℕ → ℕ
only true n = n
only false n = 0

-- n numbers from a on
abbrev pub range : ℕ → ℕ → List ℕ
range a zero = []
range a (suc n) = a ∷ range (suc a) n

-- the highest of the numbers, 0 where there is none
abbrev pub highest : List ℕ → ℕ
highest [] = 0
highest (x ∷ xs) = max x (highest xs)

module _ {A : Type 0} where
  -- x before the rest where the test passes, else the rest alone
  abbrev pub keep : Bool → A → List A → List A
  keep true x rest = x ∷ rest
  keep false x rest = rest

  -- the elements that pass the test, in their order
  abbrev pub filter : (A → Bool) → List A → List A
  filter p [] = []
  filter p (x ∷ xs) = keep (p x) x (filter p xs)

  -- the sum of f over the elements
  abbrev pub sum : (A → ℕ) → List A → ℕ
  sum f [] = 0
  sum f (x ∷ xs) = f x + sum f xs

  -- every element passes the test; some element passes it
  abbrev pub every : (A → Bool) → List A → Bool
  every p [] = true
  every p (x ∷ xs) = p x && every p xs

  abbrev pub some : (A → Bool) → List A → Bool
  some p [] = false
  some p (x ∷ xs) = p x || some p xs

  -- what f makes of each element, one after the other
  abbrev pub each : {B : Type 0} → (B → List A) → List B → List A
  each f [] = []
  each f (x ∷ xs) = f x ++ each f xs

  -- each element with its number, counted from n
  abbrev pub number : {B : Type 0} → (ℕ → B → A) → ℕ → List B → List A
  number f n [] = []
  number f n (x ∷ xs) = f n x ∷ number f (suc n) xs

  -- P holds of each element
  abbrev pub All : (A → Type 0) → List A → Type 0
  All P [] = Unit {0}
  All P (x ∷ xs) = P x × All P xs
