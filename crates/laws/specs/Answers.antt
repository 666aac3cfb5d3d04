-- What a call answers: its value, or why it is turned down. A reason stands for its number in document 01's list 'Why a call is turned down' and in
-- document 02.
use Rattle.std.specs.Prelude.{ℕ, zero, suc, ◌+◌, ◌-◌, ◌≤◌, ◌<◌, ◌≡◌, ◌≢◌, refl, List, [], ◌∷◌, map, Bool, true, false, Result, Ok, Err, get_or, leb, eqb}
use Rattle.std.proofs.Common.{arith, ap, sym, ◌∙◌, eqb-true, leb-true}
use Rattle.laws.specs.Asked.{and_left, and_right}
use Rattle.laws.specs.Lists.{every, range}
use Rattle.laws.specs.Places.{every_range}
use Rattle.laws.specs.Refusals.{Reason, first, choose_most}
use Rattle.laws.specs.declared.Refusal.{Refusal}
use Rattle.laws.specs.declared.TurnedDown.{TurnedDown}
use Rattle.laws.specs.declared.Refusal.TheVariants.{WrongSize, WrongClass, WrongIsin, RepeatedIsin, FileShape, UnknownKind, SpareByte, SmallSheet, NoMember, NotRegistered, NotThere, WrongQuantity, WrongPrice, SellerIsBuyer, TradesFull, Long, OutsideWindow, Auction, NoPrice, Attempted, Failing, AboveCeiling, OffersFull, NotEnough, Confirmed, NoNextDay, InvalidDate, WrongHolidays, NoBusinessDay, After2099, ShortPage, OldPrice, WrongKind, NotPairable}

-- the reasons in the order of their numbers, the first of which is 1
abbrev pub refusals : List Refusal
refusals =
    WrongSize
    ∷ WrongClass
    ∷ WrongIsin
    ∷ RepeatedIsin
    ∷ FileShape
    ∷ UnknownKind
    ∷ SpareByte
    ∷ SmallSheet
    ∷ NoMember
    ∷ NotRegistered
    ∷ NotThere
    ∷ WrongQuantity
    ∷ WrongPrice
    ∷ SellerIsBuyer
    ∷ TradesFull
    ∷ Long
    ∷ OutsideWindow
    ∷ Auction
    ∷ NoPrice
    ∷ Attempted
    ∷ Failing
    ∷ AboveCeiling
    ∷ OffersFull
    ∷ NotEnough
    ∷ Confirmed
    ∷ NoNextDay
    ∷ InvalidDate
    ∷ WrongHolidays
    ∷ NoBusinessDay
    ∷ After2099
    ∷ ShortPage
    ∷ OldPrice
    ∷ WrongKind
    ∷ NotPairable
    ∷ []

abbrev pub REFUSALS : ℕ
REFUSALS = 34

-- the number of a reason
abbrev pub number : Refusal → ℕ
number WrongSize = 1
number WrongClass = 2
number WrongIsin = 3
number RepeatedIsin = 4
number FileShape = 5
number UnknownKind = 6
number SpareByte = 7
number SmallSheet = 8
number NoMember = 9
number NotRegistered = 10
number NotThere = 11
number WrongQuantity = 12
number WrongPrice = 13
number SellerIsBuyer = 14
number TradesFull = 15
number Long = 16
number OutsideWindow = 17
number Auction = 18
number NoPrice = 19
number Attempted = 20
number Failing = 21
number AboveCeiling = 22
number OffersFull = 23
number NotEnough = 24
number Confirmed = 25
number NoNextDay = 26
number InvalidDate = 27
number WrongHolidays = 28
number NoBusinessDay = 29
number After2099 = 30
number ShortPage = 31
number OldPrice = 32
number WrongKind = 33
number NotPairable = 34

-- the reason with a number of the list
abbrev pub refusal_of : ℕ → Refusal
refusal_of n = get_or refusals (n - 1) NotPairable

pub number_again : (r : Refusal) → refusal_of (number r) ≡ r
number_again WrongSize = refl
number_again WrongClass = refl
number_again WrongIsin = refl
number_again RepeatedIsin = refl
number_again FileShape = refl
number_again UnknownKind = refl
number_again SpareByte = refl
number_again SmallSheet = refl
number_again NoMember = refl
number_again NotRegistered = refl
number_again NotThere = refl
number_again WrongQuantity = refl
number_again WrongPrice = refl
number_again SellerIsBuyer = refl
number_again TradesFull = refl
number_again Long = refl
number_again OutsideWindow = refl
number_again Auction = refl
number_again NoPrice = refl
number_again Attempted = refl
number_again Failing = refl
number_again AboveCeiling = refl
number_again OffersFull = refl
number_again NotEnough = refl
number_again Confirmed = refl
number_again NoNextDay = refl
number_again InvalidDate = refl
number_again WrongHolidays = refl
number_again NoBusinessDay = refl
number_again After2099 = refl
number_again ShortPage = refl
number_again OldPrice = refl
number_again WrongKind = refl
number_again NotPairable = refl

-- no reason has the number 0, which stands for none
pub number_some : (r : Refusal) → number r ≢ 0
number_some WrongSize e = omega (arith, e)
number_some WrongClass e = omega (arith, e)
number_some WrongIsin e = omega (arith, e)
number_some RepeatedIsin e = omega (arith, e)
number_some FileShape e = omega (arith, e)
number_some UnknownKind e = omega (arith, e)
number_some SpareByte e = omega (arith, e)
number_some SmallSheet e = omega (arith, e)
number_some NoMember e = omega (arith, e)
number_some NotRegistered e = omega (arith, e)
number_some NotThere e = omega (arith, e)
number_some WrongQuantity e = omega (arith, e)
number_some WrongPrice e = omega (arith, e)
number_some SellerIsBuyer e = omega (arith, e)
number_some TradesFull e = omega (arith, e)
number_some Long e = omega (arith, e)
number_some OutsideWindow e = omega (arith, e)
number_some Auction e = omega (arith, e)
number_some NoPrice e = omega (arith, e)
number_some Attempted e = omega (arith, e)
number_some Failing e = omega (arith, e)
number_some AboveCeiling e = omega (arith, e)
number_some OffersFull e = omega (arith, e)
number_some NotEnough e = omega (arith, e)
number_some Confirmed e = omega (arith, e)
number_some NoNextDay e = omega (arith, e)
number_some InvalidDate e = omega (arith, e)
number_some WrongHolidays e = omega (arith, e)
number_some NoBusinessDay e = omega (arith, e)
number_some After2099 e = omega (arith, e)
number_some ShortPage e = omega (arith, e)
number_some OldPrice e = omega (arith, e)
number_some WrongKind e = omega (arith, e)
number_some NotPairable e = omega (arith, e)

pub number_listed : (n : ℕ) → 0 < n → n ≤ REFUSALS → number (refusal_of n) ≡ n
number_listed n some most =
    let at : 1 + (n - 1) ≡ n = omega arith in
    eqb-true (number (refusal_of n)) n (rw at at (every_range (λ m. eqb (number (refusal_of m)) m) 1 REFUSALS (n - 1) refl (omega arith)))

-- each reason of a list has a number of the papers' list
abbrev pub listed : List Reason → Bool
listed rs = every (λ r. leb r.number REFUSALS) rs

pub first_listed : (rs : List Reason) → listed rs ≡ true → first rs ≤ REFUSALS
first_listed [] e = omega arith
first_listed (r ∷ rs) e =
    choose_most r.applies REFUSALS r.number (first rs)
    (leb-true r.number REFUSALS (and_left (leb r.number REFUSALS) (listed rs) e))
    (first_listed rs (and_right (leb r.number REFUSALS) (listed rs) e))

module _ {T : Type 0} where
  -- the number of an answer: 0 where nothing turns the call down
  abbrev pub number_in : Result T Refusal → ℕ
  number_in (Ok v) = 0
  number_in (Err r) = number r

  -- the value where the refusal number is 0, else the reason with that number
  abbrev pub answer : ℕ → T → Result T Refusal
  answer zero v = Ok v
  answer (suc n) v = Err (refusal_of (suc n))

  pub answer_number : (n : ℕ) (v : T) → n ≤ REFUSALS → number_in (answer n v) ≡ n
  answer_number zero v h = refl
  answer_number (suc n) v h = number_listed (suc n) (omega arith) h

  -- an answer by its number: turned down by it, or the value where it is 0
  pub answer_refused : (n : ℕ) (v : T) (r : Refusal) → number r ≡ n → Err r ≡ answer n v
  answer_refused zero v r e = absurd (number_some r e)
  answer_refused (suc n) v r e = ap Err (sym (number_again r)) ∙ ap (λ (k : ℕ). Err (refusal_of k)) e

  pub answer_done : (n : ℕ) (v : T) → n ≡ 0 → Ok v ≡ answer n v
  answer_done zero v e = refl
  answer_done (suc n) v e = absurd (omega (arith, e))

  -- and the other way round: of what was answered, the number, and the value
  pub refused_number : (n : ℕ) (v : T) (r : Refusal) → n ≤ REFUSALS → Err r ≡ answer n v → number r ≡ n
  refused_number n v r h e = ap number_in e ∙ answer_number n v h

  pub done_number : (n : ℕ) (v x : T) → Ok x ≡ answer n v → n ≡ 0
  done_number zero v x e = refl
  done_number (suc n) v x e = absurd (number_some (refusal_of (suc n)) (sym (ap number_in e)))

  pub done_value : (n : ℕ) (v x : T) → Ok x ≡ answer n v → x ≡ v
  done_value zero v x e = cc
  done_value (suc n) v x e = absurd (number_some (refusal_of (suc n)) (sym (ap number_in e)))

-- a value may be handed out where the call is turned down too, beside the reason
module _ {T : Type 0} where
  -- the number of such an answer, 0 where nothing turns the call down, and the value that it hands out
  abbrev pub number_with : Result T (TurnedDown T) → ℕ
  number_with (Ok v) = 0
  number_with (Err e) = number e.refusal

  abbrev pub value_in : Result T (TurnedDown T) → T
  value_in (Ok v) = v
  value_in (Err e) = e.value

  -- the value where the refusal number is 0, else the reason with that number and the value beside it
  abbrev pub answer_with : ℕ → T → Result T (TurnedDown T)
  answer_with zero v = Ok v
  answer_with (suc n) v = Err (record { refusal = refusal_of (suc n); value = v })

  pub number_answered : (n : ℕ) (v : T) → n ≤ REFUSALS → number_with (answer_with n v) ≡ n
  number_answered zero v h = refl
  number_answered (suc n) v h = number_listed (suc n) (omega arith) h

  pub value_answered : (n : ℕ) (v : T) → value_in (answer_with n v) ≡ v
  value_answered zero v = refl
  value_answered (suc n) v = refl

  pub turned_down_with : (n : ℕ) (v : T) (r : Refusal) → number r ≡ n → Err (record { refusal = r; value = v }) ≡ answer_with n v
  turned_down_with zero v r e = absurd (number_some r e)
  turned_down_with (suc n) v r e =
      ap (λ (s : Refusal). Err (record { refusal = s; value = v })) (sym (number_again r) ∙ ap refusal_of e)

  pub answered_with : (n : ℕ) (v : T) → n ≡ 0 → Ok v ≡ answer_with n v
  answered_with zero v e = refl
  answered_with (suc n) v e = absurd (omega (arith, e))

-- a call of the book answers a quantity, or why it is turned down
abbrev pub Outcome : Type 0
Outcome = Result ℕ Refusal

-- the quantity that is answered, 0 where the call is turned down
abbrev pub quantity_of : Outcome → ℕ
quantity_of (Ok q) = q
quantity_of (Err r) = 0

-- two reasons with one number are the same
pub same_number : (r s : Refusal) → number r ≡ number s → r ≡ s
same_number r s e = sym (number_again r) ∙ ap refusal_of e ∙ number_again s
