-- The decimal digits of a number, as ASCII bytes, most significant first, and that they are right: read back they give the number, and
-- none stands in front of them that could be left out.
use Rattle.std.specs.Prelude.{ℕ, zero, suc, ◌+◌, ◌-◌, ◌*◌, ◌/◌, ◌%◌, ◌^◌, ◌≤◌, ◌<◌, ◌≡◌, refl, List, [], ◌∷◌, ◌++◌, Bool, true, false, length, get_or, ltb}
use Rattle.std.proofs.Common.{pow-suc, div-lt_iff_lt-mul, le-div_iff_mul-le, add-one, arith, ap, sym, ◌∙◌, length-append, lt-ltb, le-ltb, ltb-true, ltb-false}
use Rattle.std.proofs.Math.Nat.{pow-succ', div-div-eq-div-mul}
use Rattle.std.proofs.Math.ListN.{get_or-append}
use Rattle.laws.specs.Asked.{Said, passed, failed, ask}
use Rattle.laws.specs.Lists.{All}

-- The digits of a number that has at most `most` of them after its first; `single` is whether it is below 10. A number below 10 is one
-- digit; any other has the digits of a tenth of it, and then its last digit.
unfoldable pub digits_from : ℕ → Bool → ℕ → List ℕ
digits_from zero single n = (48 + n) ∷ []
digits_from (suc most) true n = (48 + n) ∷ []
digits_from (suc most) false n = digits_from most (ltb (n / 10) 10) (n / 10) ++ ((48 + n % 10) ∷ [])

abbrev digits_by : ℕ → ℕ → List ℕ
digits_by most n = digits_from most (ltb n 10) n

-- no number n has more than n digits after its first
unfoldable pub digits : ℕ → List ℕ
digits n = digits_from n (ltb n 10) n

one : (most n : ℕ) → n < 10 → digits_by most n ≡ (48 + n) ∷ []
unfolding digits_from
one zero n h = refl
one (suc most) n h = rw (lt-ltb n 10 h)

again : (most n : ℕ) → 10 ≤ n → digits_by (suc most) n ≡ digits_by most (n / 10) ++ ((48 + n % 10) ∷ [])
unfolding digits_from
again most n h = rw (le-ltb n 10 h)

-- how many digits are allowed for makes no difference, if there are enough
enough : (a b n : ℕ) → n ≤ a → n ≤ b → digits_by a n ≡ digits_by b n
enough zero b n h k = one zero n (omega arith) ∙ sym (one b n (omega arith))
enough (suc a) zero n h k = one (suc a) n (omega arith) ∙ sym (one zero n (omega arith))
enough (suc a) (suc b) n h k = go (ask (ltb n 10)) (enough a b (n / 10))
  where
    go : Said (ltb n 10) → (n / 10 ≤ a → n / 10 ≤ b → digits_by a (n / 10) ≡ digits_by b (n / 10)) → digits_by (suc a) n ≡ digits_by (suc b) n
    go (passed e) ih =
        let l : n < 10 = ltb-true n 10 e in
        one (suc a) n l ∙ sym (one (suc b) n l)
    go (failed e) ih =
        let l : 10 ≤ n = ltb-false n 10 e in
        again a n l ∙ ap (λ (d : List ℕ). d ++ ((48 + n % 10) ∷ [])) (ih (omega arith) (omega arith)) ∙ sym (again b n l)

-- the same, for every number
pub digits_one : (n : ℕ) → n < 10 → digits n ≡ (48 + n) ∷ []
unfolding digits
digits_one n h = one n n h

pub digits_more : (n : ℕ) → 10 ≤ n → digits n ≡ digits (n / 10) ++ ((48 + n % 10) ∷ [])
unfolding digits
digits_more zero h = absurd (omega arith)
digits_more (suc n) h =
    again n (suc n) h ∙ ap (λ (d : List ℕ). d ++ ((48 + suc n % 10) ∷ [])) (enough n (suc n / 10) (suc n / 10) (omega arith) (omega arith))

-- what holds of the numbers below 10, and of each other number if of its tenth, holds of every number
module _ (P : ℕ → Type 0) (first : (n : ℕ) → n < 10 → P n) (next : (n : ℕ) → 10 ≤ n → P (n / 10) → P n) where
  up_to : (most n : ℕ) → n ≤ most → P n
  up_to zero n h = first n (omega arith)
  up_to (suc most) n h = go (ask (ltb n 10)) (up_to most (n / 10))
    where
      go : Said (ltb n 10) → (n / 10 ≤ most → P (n / 10)) → P n
      go (passed e) ih = first n (ltb-true n 10 e)
      go (failed e) ih =
          let l : 10 ≤ n = ltb-false n 10 e in
          next n l (ih (omega arith))

  pub by_tenths : (n : ℕ) → P n
  by_tenths n = up_to n n (omega arith)

-- ---- the digits are right

-- the number that digits stand for, after those read already
abbrev pub value_after : ℕ → List ℕ → ℕ
value_after v [] = v
value_after v (d ∷ ds) = value_after (v * 10 + (d - 48)) ds

abbrev pub value : List ℕ → ℕ
value ds = value_after 0 ds

value_last : (v d : ℕ) (ds : List ℕ) → value_after v (ds ++ (d ∷ [])) ≡ value_after v ds * 10 + (d - 48)
value_last v d [] = refl
value_last v d (x ∷ ds) = value_last (v * 10 + (x - 48)) d ds

-- read back, the digits of a number give the number
pub digits_value : (n : ℕ) → value (digits n) ≡ n
digits_value =
    by_tenths (λ n. value (digits n) ≡ n)
    (λ n h. ap value (digits_one n h) ∙ omega arith)
    (λ n h ih. ap value (digits_more n h) ∙ (value_last 0 (48 + n % 10) (digits (n / 10)) ∙ omega (arith, ih)))

-- there is a digit
pub digits_some : (n : ℕ) → 1 ≤ length (digits n)
digits_some =
    by_tenths (λ n. 1 ≤ length (digits n))
    (λ n h. omega (arith, ap length (digits_one n h)))
    (λ n h ih. omega (arith, ap length (digits_more n h), length-append (digits (n / 10)) ((48 + n % 10) ∷ [])))

-- each is one of the ten digits
all_last : (P : ℕ → Type 0) (ds : List ℕ) (d : ℕ) → All P ds → P d → All P (ds ++ (d ∷ []))
all_last P [] d h p = (p, tt)
all_last P (x ∷ ds) d h p = (h.0, all_last P ds d h.1 p)

abbrev pub Digit : ℕ → Type 0
Digit d = (48 ≤ d) × (d ≤ 57)

pub digits_are : (n : ℕ) → All Digit (digits n)
digits_are =
    by_tenths (λ n. All Digit (digits n))
    (λ n h. rw (digits_one n h) ((omega arith, omega arith), tt))
    (λ n h ih. rw (digits_more n h) (all_last Digit (digits (n / 10)) (48 + n % 10) ih (omega arith, omega arith)))

-- the first is no 0, unless the number is 0
pub digits_first : (n : ℕ) → 1 ≤ n → 49 ≤ get_or (digits n) 0 0
digits_first =
    by_tenths (λ n. 1 ≤ n → 49 ≤ get_or (digits n) 0 0)
    (λ n h k. rw (digits_one n h) (omega arith))
    (λ n h ih k. rw (digits_more n h, get_or-append (digits (n / 10)) ((48 + n % 10) ∷ []) 0 0 (digits_some (n / 10))) (ih (omega arith)))

pub digits_zero : digits 0 ≡ 48 ∷ []
digits_zero = digits_one 0 (omega arith)

-- ---- how many there are

pub length_more : (n : ℕ) → 10 ≤ n → length (digits n) ≡ length (digits (n / 10)) + 1
length_more n h = ap length (digits_more n h) ∙ length-append (digits (n / 10)) ((48 + n % 10) ∷ [])

pub length_one : (n : ℕ) → n < 10 → length (digits n) ≡ 1
length_one n h = ap length (digits_one n h)

-- the tenth of a number below a power of ten is below the power before
pub tenth_below : (k n : ℕ) → n < 10 ^ suc k → n / 10 < 10 ^ k
tenth_below k n h = (div-lt_iff_lt-mul {k = 10} (omega arith)).1 (rw (pow-suc 10 k) at h)

-- a number below a power of ten has at most as many digits as the power says
pub digits_most : (k n : ℕ) → n < 10 ^ suc k → length (digits n) ≤ suc k
digits_most zero n h = omega (arith, length_one n h)
digits_most (suc k) n h = go (ask (ltb n 10)) (digits_most k (n / 10))
  where
    go : Said (ltb n 10) → (n / 10 < 10 ^ suc k → length (digits (n / 10)) ≤ suc k) → length (digits n) ≤ suc (suc k)
    go (passed e) ih = omega (arith, length_one n (ltb-true n 10 e))
    go (failed e) ih =
        let l : 10 ≤ n = ltb-false n 10 e in
        omega (arith, length_more n l, ih (tenth_below (suc k) n h))

-- every power of ten is at least 1
some : (k : ℕ) → 1 ≤ 10 ^ k
some zero = omega arith
some (suc k) = omega (arith, pow-suc 10 k, some k)

-- a number from a power of ten on has that many digits more than its quotient by the power
pub length_steps : (k n : ℕ) → 10 ^ k ≤ n → length (digits n) ≡ length (digits (n / 10 ^ k)) + k
length_steps zero n h =
    let e : n / 10 ^ 0 ≡ n = omega arith in
    omega (arith, ap (λ (m : ℕ). length (digits m)) e)
length_steps (suc k) n h =
    let tenth : 10 ^ k ≤ n / 10 = (le-div_iff_mul-le {k = 10} (omega arith)).1 (rw (pow-suc 10 k) at h) in
    let e : n / 10 / 10 ^ k ≡ n / 10 ^ suc k = div-div-eq-div-mul n 10 (10 ^ k) ∙ ap (λ (m : ℕ). n / m) (sym (pow-succ' 10 k)) in
    omega (arith, length_more n (omega (arith, some k)), length_steps k (n / 10) tenth, ap (λ (m : ℕ). length (digits m)) e)

-- a number from one power of ten on and below the next has as many digits as the next one says
pub length_between : (k n : ℕ) → 10 ^ k ≤ n → n < 10 ^ suc k → length (digits n) ≡ suc k
length_between k n h l =
    omega (arith, length_steps k n h, length_one (n / 10 ^ k) ((div-lt_iff_lt-mul {k = 10 ^ k} (omega (arith, some k))).1 (rw (pow-succ' 10 k) at l)))

-- a number is below the power of ten that has as many noughts as it has digits
pub digits_below : (n : ℕ) → n < 10 ^ length (digits n)
digits_below =
    by_tenths (λ n. n < 10 ^ length (digits n))
    (λ n h. rw (length_one n h) (omega arith))
    (λ n h ih. rw (length_more n h, add-one, pow-suc 10 (length (digits (n / 10)))) ((div-lt_iff_lt-mul {k = 10} (omega arith)).0 ih))

-- ---- the same digits from the last to the first: the k last decimal places of a number
unfoldable pub places : ℕ → ℕ → List ℕ
places zero n = []
places (suc k) n = places k (n / 10) ++ ((48 + n % 10) ∷ [])

pub places_digits : (n : ℕ) → places (length (digits n)) n ≡ digits n
unfolding places
places_digits =
    by_tenths (λ n. places (length (digits n)) n ≡ digits n)
    (λ n h. rw (length_one n h, digits_one n h) (ap (λ (d : ℕ). (48 + d) ∷ []) (let e : n % 10 ≡ n = omega arith in e)))
    (λ n h ih. rw (length_more n h, add-one) (ap (λ (d : List ℕ). d ++ ((48 + n % 10) ∷ [])) ih ∙ sym (digits_more n h)))
