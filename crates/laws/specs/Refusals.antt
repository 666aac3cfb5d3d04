-- Why a call is turned down: a list of tests with their numbers, of which the first that applies counts.
use Rattle.std.specs.Prelude.{ℕ, zero, suc, ◌+◌, ◌<◌, ◌≤◌, ◌≡◌, refl, List, [], ◌∷◌, ◌++◌, Bool, true, false, ltb}
use Rattle.std.proofs.Common.{add-zero, arith, ap, sym, ◌∙◌, true≢false}
use Rattle.std.proofs.lemmas.Bool.{false≢true}
use Rattle.laws.specs.Lists.{range, each, every, All}
use Rattle.laws.specs.Asked.{and_left, and_right}

-- a reason to refuse: whether it applies, and its number in document 01's list 'Why a call is turned down'
pub record Reason : Type 0 where
  pub applies : Bool
  pub number : ℕ

infix 30 ◌⇒◌
abbrev pub ◌⇒◌ : Bool → ℕ → Reason
t ⇒ n = record { applies = t; number = n }

-- the first number where the test passes, else the second
abbrev pub choose : Bool → ℕ → ℕ → ℕ
choose true n rest = n
choose false n rest = rest

-- the number of the first reason that applies, else 0
abbrev pub first : List Reason → ℕ
first [] = 0
first (r ∷ rs) = choose r.applies r.number (first rs)

-- a list of reasons, read from its first on: a reason that applies decides, and past one that does not the rest does
pub here : {t : Bool} (n rest : ℕ) → t ≡ true → n ≡ choose t n rest
here {t = true} n rest e = refl
here {t = false} n rest e = absurd (true≢false (sym e))

pub past : {t : Bool} {m rest : ℕ} (n : ℕ) → t ≡ false → m ≡ rest → m ≡ choose t n rest
past {t = true} n e same = absurd (true≢false e)
past {t = false} n e same = same

-- the first where the refusal number is 0, else the second
module _ {A : Type 0} where
  abbrev pub accepted : ℕ → A → A → A
  accepted zero done kept = done
  accepted (suc n) done kept = kept

  pub accepted_zero : (n : ℕ) (done kept : A) → n ≡ 0 → accepted n done kept ≡ done
  accepted_zero zero done kept h = refl
  accepted_zero (suc n) done kept h = absurd (omega arith)

  pub accepted_not : (n : ℕ) (done kept : A) → (n ≡ 0 → ⊥) → accepted n done kept ≡ kept
  accepted_not zero done kept h = absurd (h refl)
  accepted_not (suc n) done kept h = refl

-- each reason has a number above 0
abbrev pub numbered : List Reason → Bool
numbered rs = every (λ r. ltb 0 r.number) rs

-- of two lists of reasons, one after the other: the first decides where it refuses, else the second
not_applying : (b : Bool) (n rest : ℕ) → ltb 0 n ≡ true → choose b n rest ≡ 0 → b ≡ false
not_applying true n rest h e = absurd (false≢true (sym (ap (λ (k : ℕ). ltb 0 k) e) ∙ h))
not_applying false n rest h e = refl

pub first_past : (xs ys : List Reason) → numbered xs ≡ true → first xs ≡ 0 → first (xs ++ ys) ≡ first ys
first_past [] ys h e = refl
first_past (x ∷ xs) ys h e =
    let f : x.applies ≡ false = not_applying x.applies x.number (first xs) (and_left (ltb 0 x.number) (numbered xs) h) e in
    rw f (first_past xs ys (and_right (ltb 0 x.number) (numbered xs) h) (rw f at e))

choose_there : (b : Bool) (n rest more : ℕ) → (choose b n rest ≡ 0 → ⊥) → ((rest ≡ 0 → ⊥) → more ≡ rest) → choose b n more ≡ choose b n rest
choose_there true n rest more h k = refl
choose_there false n rest more h k = k h

pub first_there : (xs ys : List Reason) → (first xs ≡ 0 → ⊥) → first (xs ++ ys) ≡ first xs
first_there [] ys h = absurd (h refl)
first_there (x ∷ xs) ys h =
    choose_there x.applies x.number (first xs) (first (xs ++ ys)) h (λ k. first_there xs ys k)

-- where both lists together refuse nothing, neither of them refuses
pub first_neither : (xs ys : List Reason) → numbered xs ≡ true → first (xs ++ ys) ≡ 0 → (first xs ≡ 0) × (first ys ≡ 0)
first_neither xs ys h e = go (first xs) refl
  where
    go : (n : ℕ) → first xs ≡ n → (first xs ≡ 0) × (first ys ≡ 0)
    go zero z = (z, sym (first_past xs ys h z) ∙ e)
    go (suc n) k = absurd (omega (arith, sym (first_there xs ys (λ z. omega (arith, sym k ∙ z))) ∙ e))

-- no reason of a list applies where the list refuses nothing
pub none_applies : (rs : List Reason) → numbered rs ≡ true → first rs ≡ 0 → All (λ r. r.applies ≡ false) rs
none_applies [] h e = tt
none_applies (r ∷ rs) h e =
    let f : r.applies ≡ false = not_applying r.applies r.number (first rs) (and_left (ltb 0 r.number) (numbered rs) h) e in
    (f, none_applies rs (and_right (ltb 0 r.number) (numbered rs) h) (rw f at e))

-- the reasons of numbered entries, one entry after the other: where none refuses, no entry refuses
module _ (f : ℕ → List Reason) (h : (i : ℕ) → numbered (f i) ≡ true) where
  pub each_passes : (a n i : ℕ) → first (each f (range a n)) ≡ 0 → i < n → first (f (a + i)) ≡ 0
  each_passes a zero i e k = absurd (omega arith)
  each_passes a (suc n) zero e k = rw add-zero (first_neither (f a) (each f (range (suc a) n)) (h a) e).0
  each_passes a (suc n) (suc i) e k =
      ap (λ (j : ℕ). first (f j)) (omega arith)
      ∙ each_passes (suc a) n i (first_neither (f a) (each f (range (suc a) n)) (h a) e).1 (omega arith)

-- reasons whose numbers are at most k refuse with at most k
abbrev pub AtMost : ℕ → List Reason → Type 0
AtMost k rs = All (λ r. r.number ≤ k) rs

pub choose_most : (t : Bool) (k n rest : ℕ) → n ≤ k → rest ≤ k → choose t n rest ≤ k
choose_most true k n rest h l = h
choose_most false k n rest h l = l

pub first_most : (k : ℕ) (rs : List Reason) → AtMost k rs → first rs ≤ k
first_most k [] h = omega arith
first_most k (r ∷ rs) h = choose_most r.applies k r.number (first rs) h.0 (first_most k rs h.1)
