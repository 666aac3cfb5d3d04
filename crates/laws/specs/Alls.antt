-- Laws of what holds of each element of a list.
use Rattle.std.specs.Prelude.{ℕ, zero, suc, ◌+◌, ◌≤◌, ◌<◌, ◌≡◌, refl, List, [], ◌∷◌, ◌++◌, map, Bool, true, false, ◌||◌, length, get_or, set, replicate}
use Rattle.std.proofs.Common.{add-zero, arith, ap, sym, ◌∙◌, true≢false}
use Rattle.std.proofs.Math.Bool.{or_assoc, or-true}
use Rattle.laws.specs.Asked.{Said, passed, failed, ask}
use Rattle.laws.specs.Lists.{range, keep, filter, each, number, some, All}

module _ {A : Type 0} where
  pub all_append : (P : A → Type 0) (xs ys : List A) → All P xs → All P ys → All P (xs ++ ys)
  all_append P [] ys h k = k
  all_append P (x ∷ xs) ys h k = (h.0, all_append P xs ys h.1 k)

  pub all_keep : (P : A → Type 0) (b : Bool) (x : A) (xs : List A) → (b ≡ true → P x) → All P xs → All P (keep b x xs)
  all_keep P true x xs h k = (h refl, k)
  all_keep P false x xs h k = k

  pub all_filter : (P Q : A → Type 0) (p : A → Bool) (xs : List A) → ((x : A) → p x ≡ true → P x → Q x) → All P xs → All Q (filter p xs)
  all_filter P Q p [] f h = tt
  all_filter P Q p (x ∷ xs) f h = all_keep Q (p x) x (filter p xs) (λ e. f x e h.0) (all_filter P Q p xs f h.1)

  pub all_of : (P Q : A → Type 0) (xs : List A) → ((x : A) → P x → Q x) → All P xs → All Q xs
  all_of P Q [] f h = tt
  all_of P Q (x ∷ xs) f h = (f x h.0, all_of P Q xs f h.1)

  pub all_any : (P : A → Type 0) (xs : List A) → ((x : A) → P x) → All P xs
  all_any P [] f = tt
  all_any P (x ∷ xs) f = (f x, all_any P xs f)

  pub all_both : (P Q : A → Type 0) (xs : List A) → All P xs → All Q xs → All (λ x. P x × Q x) xs
  all_both P Q [] h k = tt
  all_both P Q (x ∷ xs) h k = ((h.0, k.0), all_both P Q xs h.1 k.1)

  pub all_at : (P : A → Type 0) (xs : List A) (i : ℕ) (d : A) → i < length xs → All P xs → P (get_or xs i d)
  all_at P [] i d h k = absurd (omega arith)
  all_at P (x ∷ xs) zero d h k = k.0
  all_at P (x ∷ xs) (suc i) d h k = all_at P xs i d (omega arith) k.1

  -- from what holds at each place
  pub all_places : (P : A → Type 0) (xs : List A) (d : A) → ((i : ℕ) → i < length xs → P (get_or xs i d)) → All P xs
  all_places P [] d f = tt
  all_places P (x ∷ xs) d f = (f 0 (omega arith), all_places P xs d (λ i h. f (suc i) (omega arith)))

  pub all_each : {B : Type 0} (P : A → Type 0) (f : B → List A) (Q : B → Type 0) (ys : List B) → ((y : B) → Q y → All P (f y)) → All Q ys → All P (each f ys)
  all_each P f Q [] h k = tt
  all_each P f Q (y ∷ ys) h k = all_append P (f y) (each f ys) (h y k.0) (all_each P f Q ys h k.1)

  pub all_map : {B : Type 0} (P : A → Type 0) (f : B → A) (Q : B → Type 0) (ys : List B) → ((y : B) → Q y → P (f y)) → All Q ys → All P (map f ys)
  all_map P f Q [] h k = tt
  all_map P f Q (y ∷ ys) h k = (h y k.0, all_map P f Q ys h k.1)

  pub all_number : {B : Type 0} (P : A → Type 0) (f : ℕ → B → A) (Q : B → Type 0) (n : ℕ) (ys : List B) → ((k : ℕ) (y : B) → Q y → P (f k y)) → All Q ys → All P (number f n ys)
  all_number P f Q n [] h k = tt
  all_number P f Q n (y ∷ ys) h k = (h n y k.0, all_number P f Q (suc n) ys h k.1)

  pub all_set : (P : A → Type 0) (xs : List A) (i : ℕ) (x : A) → P x → All P xs → All P (set xs i x)
  all_set P [] i x h k = tt
  all_set P (y ∷ ys) zero x h k = (h, k.1)
  all_set P (y ∷ ys) (suc i) x h k = (k.0, all_set P ys i x h k.1)

  pub all_replicate : (P : A → Type 0) (n : ℕ) (x : A) → P x → All P (replicate n x)
  all_replicate P zero x h = tt
  all_replicate P (suc n) x h = (h, all_replicate P n x h)

  pub length_number : {B : Type 0} (f : ℕ → B → A) (n : ℕ) (ys : List B) → length (number f n ys) ≡ length ys
  length_number f n [] = refl
  length_number f n (y ∷ ys) = ap suc (length_number f (suc n) ys)

-- what holds of each element, and of what stands where none is, holds at every place
pub all_anywhere : {A : Type 0} (P : A → Type 0) (xs : List A) (i : ℕ) (d : A) → P d → All P xs → P (get_or xs i d)
all_anywhere P [] i d h k = h
all_anywhere P (x ∷ xs) zero d h k = k.0
all_anywhere P (x ∷ xs) (suc i) d h k = all_anywhere P xs i d h k.1

-- an element that passes the test has what all have
pub some_of : {A : Type 0} (test : A → Bool) (P : A → Type 0) (R : Type 0) (xs : List A) → some test xs ≡ true → All P xs → ((x : A) → test x ≡ true → P x → R) → R
some_of test P R [] e h f = absurd (true≢false (sym e))
some_of test P R (x ∷ xs) e h f = go (ask (test x)) (λ k. some_of test P R xs k h.1 f)
  where
    go : Said (test x) → (some test xs ≡ true → R) → R
    go (passed t) rest = f x t h.0
    go (failed t) rest = rest (rw t at e)

pub some_append : {A : Type 0} (test : A → Bool) (xs ys : List A) → some test (xs ++ ys) ≡ some test xs || some test ys
some_append test [] ys = refl
some_append test (x ∷ xs) ys =
    ap (λ (t : Bool). test x || t) (some_append test xs ys) ∙ sym (or_assoc (test x) (some test xs) (some test ys))

pub some_last : {A : Type 0} (test : A → Bool) (xs : List A) (y : A) → test y ≡ true → some test (xs ++ y ∷ []) ≡ true
some_last test xs y e = some_append test xs (y ∷ []) ∙ rw e (or-true (some test xs))

pub get_or_number : {A B : Type 0} (f : ℕ → B → A) (n : ℕ) (xs : List B) (i : ℕ) (a : A) (b : B) → i < length xs → get_or (number f n xs) i a ≡ f (n + i) (get_or xs i b)
get_or_number f n [] i a b h = absurd (omega arith)
get_or_number f n (x ∷ xs) zero a b h = ap (λ (k : ℕ). f k x) (sym (add-zero n))
get_or_number f n (x ∷ xs) (suc i) a b h =
    get_or_number f (suc n) xs i a b (omega arith) ∙ ap (λ (k : ℕ). f k (get_or xs i b)) (omega arith)

pub all_range : (a n : ℕ) → All (λ k. (a ≤ k) × (k < a + n)) (range a n)
all_range a zero = tt
all_range a (suc n) =
    ((omega arith, omega arith), all_of (λ k. (suc a ≤ k) × (k < suc a + n)) (λ k. (a ≤ k) × (k < a + suc n)) (range (suc a) n) (λ k h. (omega (arith, h.0), omega (arith, h.1))) (all_range (suc a) n))
