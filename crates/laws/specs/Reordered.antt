-- One list in the order of another: the same elements, each as often. What two such lists have alike.
use Rattle.std.specs.Prelude.{ℕ, ◌+◌, ◌≡◌, refl, Bool, true, false, length}
use Rattle.std.proofs.Common.{arith, ap, ap₂, sym, ◌∙◌, subst}
use mathlib.Core.List.Permᴰ
use mathlib.Core.List.{List, [], ◌∷◌, map, Permᴰ}
use Rattle.laws.specs.Lists.{All, keep, filter, sum}
use Rattle.laws.specs.Sums.{sum_length}

-- the library's permutations
abbrev pub Reordered : {A : Type 0} → List A → List A → Type 0
Reordered xs ys = Permᴰ xs ys

module _ {A : Type 0} where
  pub reordered_sum : (f : A → ℕ) {xs ys : List A} → Reordered xs ys → sum f xs ≡ sum f ys
  reordered_sum f Permᴰ.nil = refl
  reordered_sum f (Permᴰ.cons e d) = ap₂ (λ (m n : ℕ). m + n) (ap f e) (reordered_sum f d)
  reordered_sum f (Permᴰ.swap e k) = omega (arith, ap f e, ap f k)
  reordered_sum f (Permᴰ.trans d k) = reordered_sum f d ∙ reordered_sum f k

  pub reordered_length : {xs ys : List A} → Reordered xs ys → length xs ≡ length ys
  reordered_length {xs} {ys} d = sym (sum_length xs) ∙ reordered_sum (λ x. 1) d ∙ sum_length ys

  pub reordered_all : (P : A → Type 0) {xs ys : List A} → Reordered xs ys → All P xs → All P ys
  reordered_all P Permᴰ.nil h = h
  reordered_all P (Permᴰ.cons e d) h = (subst P e h.0, reordered_all P d h.1)
  reordered_all P (Permᴰ.swap e k) h = (subst P k h.1.0, (subst P e h.0, h.1.1))
  reordered_all P (Permᴰ.trans d k) h = reordered_all P k (reordered_all P d h)

  -- the elements that pass a test
  kept_alike : (t : Bool) {x y : A} {xs ys : List A} → x ≡ y → Reordered xs ys → Reordered (keep t x xs) (keep t y ys)
  kept_alike true e d = Permᴰ.cons e d
  kept_alike false e d = d

  kept_swapped : (s t : Bool) (x y : A) (l : List A) → Reordered (keep s x (keep t y l)) (keep t y (keep s x l))
  kept_swapped true true x y l = Permᴰ.swap refl refl
  kept_swapped true false x y l = Permᴰ.refl (x ∷ l)
  kept_swapped false true x y l = Permᴰ.refl (y ∷ l)
  kept_swapped false false x y l = Permᴰ.refl l

  pub reordered_filter : (p : A → Bool) {xs ys : List A} → Reordered xs ys → Reordered (filter p xs) (filter p ys)
  reordered_filter p Permᴰ.nil = Permᴰ.nil
  reordered_filter p (Permᴰ.cons {a = a} {b = b} {l₁ = xs} {l₂ = ys} e d) =
      subst (λ (t : Bool). Reordered (keep (p a) a (filter p xs)) (keep t b (filter p ys))) (ap p e) (kept_alike (p a) e (reordered_filter p d))
  reordered_filter p (Permᴰ.swap {a = a} {b = b} {a' = c} {b' = d} {l = l} e k) =
      subst (λ (x : A). Reordered (keep (p a) a (keep (p b) b (filter p l))) (keep (p c) c (keep (p x) x (filter p l)))) e
      (subst (λ (x : A). Reordered (keep (p a) a (keep (p b) b (filter p l))) (keep (p x) x (keep (p a) a (filter p l)))) k (kept_swapped (p a) (p b) a b (filter p l)))
  reordered_filter p (Permᴰ.trans d k) = Permᴰ.trans (reordered_filter p d) (reordered_filter p k)

-- A list of which f makes one list goes over into one of which it makes that list reordered.
module _ {A B : Type 0} (f : B → A) where
  pub record Carried (ts : List B) (ys : List A) : Type 0 where
    pub list : List B
    pub made : map f list ≡ ys
    pub same : Reordered ts list

  pub carried : {xs ys : List A} → Reordered xs ys → (ts : List B) → map f ts ≡ xs → Carried ts ys
  carried Permᴰ.nil ts k = record { list = ts; made = k; same = Permᴰ.refl ts }
  carried (Permᴰ.cons e d) [] k = absurd (let z : ◌≡◌ {A = ℕ} 0 1 = cc in omega arith)
  carried (Permᴰ.cons {a = a} {b = b} {l₁ = xs} {l₂ = ys} e d) (t ∷ ts) k = go (cc) (carried d ts (cc))
    where
      go : f t ≡ a → Carried ts ys → Carried (t ∷ ts) (b ∷ ys)
      go h c =
          record {
            list = t ∷ c.list;
            made = ap₂ (λ (x : A) (l : List A). x ∷ l) (h ∙ e) c.made;
            same = Permᴰ.cons refl c.same;
          }
  carried (Permᴰ.swap e k') [] k = absurd (let z : ◌≡◌ {A = ℕ} 0 1 = cc in omega arith)
  carried (Permᴰ.swap e k') (t ∷ []) k = absurd (let z : ◌≡◌ {A = ℕ} 0 1 = cc in omega arith)
  carried (Permᴰ.swap {a = a} {b = b} {a' = c} {b' = d} {l = l} e k') (t ∷ u ∷ ts) k = go (cc) (cc) (cc)
    where
      go : f t ≡ a → f u ≡ b → map f ts ≡ l → Carried (t ∷ u ∷ ts) (c ∷ d ∷ l)
      go h i j =
          record {
            list = u ∷ t ∷ ts;
            made = λ n. (i ∙ k') n ∷ (h ∙ e) n ∷ j n;
            same = Permᴰ.swap refl refl;
          }
  carried (Permᴰ.trans d k') ts k =
      let c = carried d ts k in
      let c' = carried k' c.list c.made in
      record { list = c'.list; made = c'.made; same = Permᴰ.trans c.same c'.same }
