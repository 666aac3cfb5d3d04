-- The accounts: each is what the charges of the list make of it, and all 64 add up to zero.
use Prim.Native.Nat.{ℕ, zero, suc, ◌+◌, ◌-◌, ◌*◌, ◌≤◌, ◌<◌}
use native.Mathlib.Omega.{arith}
use mathlib.Core.Path.{◌≡◌, refl, ap, sym, ◌∙◌}
use mathlib.Core.Logic.{◌≢◌}
use mathlib.Core.List.{List, [], ◌∷◌, map}
use mathlib.Core.Bool.{not, ◌&&◌}
use lib.ListN.{length, get_or, length-set, length-replicate, get_or-replicate}
use lib.Seq.{get_or-set_same, get_or-set_other}
use lib.Dec.{ltb, eqb}
use lib.IntN.{pos, sub_ℕ, ◌+ℤ◌}
use borrow.Author.Tests.{eqb-true, eqb-false}
use Rattle.laws.specs.Lists.{only, sum, each, range, All}
use Rattle.laws.specs.Asked.{Said, passed, failed, ask}
use Rattle.laws.specs.Listed.{sum_append}
use Rattle.laws.specs.Alls.{all_append, all_keep, all_of, all_any, all_each, all_map}
use Rattle.laws.specs.Refusals.{accepted}
use Rattle.laws.specs.Integers.{sumℤ, total, sum_sub, sub_add, sub_self, sum_places}
use Rattle.plain.specs.declared.Opening.{Opening}
use Rattle.rules.specs.declared.Amount.{Amount}
use Rattle.rules.specs.declared.Amount.TheVariants.{Debit, Credit}
use Rattle.rules.specs.Charges.{award_fine, late_fine}
use Rattle.events.specs.declared.Event.{Event}
use Rattle.events.specs.declared.Event.TheVariants as event
use Rattle.plain.specs.declared.Position.{Position}
use Rattle.plain.specs.declared.Piece.{Piece}
use Rattle.plain.specs.declared.Award.{Award}
use Rattle.plain.specs.declared.Ledger.{Ledger}
use Rattle.plain.specs.Book.{Book, new, no_position, position_of, award_of, class_of, latest_of}
use Rattle.plain.specs.Dealing.{due}
use Rattle.plain.specs.Charging.{Charge, credit_of, debit_of, raise, credited, debited, posted, charge, buy_in_charges, payment, cash_charges, award_fines, late_fines, close_charges, cash_charges_by}
use Rattle.plain.specs.Calls.{Call, discharged, hands_out, charges, done}
use Rattle.plain.specs.Refusals.{refusal}
use Rattle.plain.specs.Histories.{event_of, next, charged, run, all_charges, balance}
use Rattle.plain.proofs.Accepted.{run_keeps}
use Rattle.plain.specs.Invariants.{Fair, AwardFits}
use Rattle.plain.specs.Sound.{Balanced, Booked, Places, cents}
use Rattle.plain.proofs.Numbered.{nth_anywhere}

-- One column of the ledger. `side` says which account of a charge it books: its payee (credits) or its payer (debits).

unfoldable pub booking : (Charge → ℕ) → List ℕ → List Charge → List ℕ
booking side l [] = l
booking side l (c ∷ cs) = booking side (raise l (side c) c.cents) cs

pub credited_is : (l : List ℕ) (cs : List Charge) → credited l cs ≡ booking (λ c. c.payee) l cs
unfolding credited booking
credited_is l [] = refl
credited_is l (c ∷ cs) = credited_is (raise l c.payee c.cents) cs

pub debited_is : (l : List ℕ) (cs : List Charge) → debited l cs ≡ booking (λ c. c.payer) l cs
unfolding debited booking
debited_is l [] = refl
debited_is l (c ∷ cs) = debited_is (raise l c.payer c.cents) cs

-- a raise changes one place, or none where the list has no such place
raise_at : (l : List ℕ) (k n j : ℕ) → j < length l → get_or (raise l k n) j 0 ≡ get_or l j 0 + only (eqb k j) n
raise_at l k n j h = go (ask (eqb k j))
  where
    go : Said (eqb k j) → get_or (raise l k n) j 0 ≡ get_or l j 0 + only (eqb k j) n
    go (passed e) = rw (e, eqb-true k j e) (get_or-set_same l j (get_or l j 0 + n) 0 h)
    go (failed e) =
        let other : j ≢ k = λ q. eqb-false k j e (sym q) in
        rw e (get_or-set_other l k j (get_or l k 0 + n) 0 other ∙ omega arith)

raise_total : (l : List ℕ) (k n : ℕ) → k < length l → total (raise l k n) ≡ total l + n
raise_total [] k n h = absurd (omega arith)
raise_total (x ∷ l) zero n h = omega arith
raise_total (x ∷ l) (suc k) n h = omega (arith, raise_total l k n (omega arith))

raise_most : (l : List ℕ) (k n : ℕ) → total (raise l k n) ≤ total l + n
raise_most [] k n = omega arith
raise_most (x ∷ l) zero n = omega arith
raise_most (x ∷ l) (suc k) n = omega (arith, raise_most l k n)

module _ (side : Charge → ℕ) where
  pub booking_length : (l : List ℕ) (cs : List Charge) → length (booking side l cs) ≡ length l
  unfolding booking
  booking_length l [] = refl
  booking_length l (c ∷ cs) =
      booking_length (raise l (side c) c.cents) cs ∙ length-set l (side c) (get_or l (side c) 0 + c.cents)

  -- a place of the column gains what the charges book there
  pub booking_at : (l : List ℕ) (cs : List Charge) (k : ℕ) → k < length l → get_or (booking side l cs) k 0 ≡ get_or l k 0 + sum (λ c. only (eqb (side c) k) c.cents) cs
  unfolding booking
  booking_at l [] k h = omega arith
  booking_at l (c ∷ cs) k h =
      let longer : k < length (raise l (side c) c.cents) = rw (length-set l (side c) (get_or l (side c) 0 + c.cents)) h in
      omega (arith, booking_at (raise l (side c) c.cents) cs k longer, raise_at l (side c) c.cents k h)

  -- the column gains all cents where it has each place, and never more
  pub booking_total : (l : List ℕ) (cs : List Charge) (n : ℕ) → length l ≡ n → All (λ c. side c < n) cs → total (booking side l cs) ≡ total l + cents cs
  unfolding booking
  booking_total l [] n e h = omega arith
  booking_total l (c ∷ cs) n e h =
      omega (
        arith,
        booking_total (raise l (side c) c.cents) cs n (length-set l (side c) (get_or l (side c) 0 + c.cents) ∙ e) h.1,
        raise_total l (side c) c.cents (omega (arith, h.0)),
      )

  pub booking_most : (l : List ℕ) (cs : List Charge) → total (booking side l cs) ≤ total l + cents cs
  unfolding booking
  booking_most l [] = omega arith
  booking_most l (c ∷ cs) =
      omega (arith, booking_most (raise l (side c) c.cents) cs, raise_most l (side c) c.cents)

-- The ledger after calls

pub posts_credits : (l : Ledger) (cs : List Charge) → (posted l cs).credits ≡ booking (λ c. c.payee) l.credits cs
unfolding posted
posts_credits l cs = credited_is l.credits cs

pub posts_debits : (l : Ledger) (cs : List Charge) → (posted l cs).debits ≡ booking (λ c. c.payer) l.debits cs
unfolding posted
posts_debits l cs = debited_is l.debits cs

posted_none : (l : Ledger) → l ≡ posted l []
unfolding posted credited debited
posted_none l = refl

-- every call books its charges, and nothing else
pub done_ledger : (b : Book) (e : Event) → (done b e).ledger ≡ posted b.ledger (charges b e)
unfolding done charges discharged
done_ledger b (event.Trade t) = posted_none b.ledger
done_ledger b (event.Price p) = posted_none b.ledger
done_ledger b (event.Delivery d) = refl
done_ledger b (event.Attempt a) = posted_none b.ledger
done_ledger b (event.Offer o) = posted_none b.ledger
done_ledger b (event.Award a) = posted_none b.ledger
done_ledger b (event.Confirm c) = refl
done_ledger b (event.Cash c) = refl
done_ledger b event.Close = refl
done_ledger b (event.PairOff x) = refl

chosen_ledger : (n : ℕ) (x y : Book) (cs : List Charge) → x.ledger ≡ posted y.ledger cs → (accepted n x y).ledger ≡ posted y.ledger (accepted n cs [])
chosen_ledger zero x y cs e = e
chosen_ledger (suc n) x y cs e = posted_none y.ledger

pub next_ledger : (b : Book) (c : Call) → (next b c).ledger ≡ posted b.ledger (charged b c)
unfolding next charged
next_ledger b c = chosen_ledger (refusal b c) (done b (event_of c)) b (charges b (event_of c)) (done_ledger b (event_of c))

-- a column of the ledger, with the side of a charge that it books
module _
    (column : Ledger → List ℕ)
    (side : Charge → ℕ)
    (posts : (l : Ledger) (cs : List Charge) → column (posted l cs) ≡ booking side (column l) cs)
  where
    pub posted_length : (l : Ledger) (cs : List Charge) → length (column (posted l cs)) ≡ length (column l)
    posted_length l cs = ap length (posts l cs) ∙ booking_length side (column l) cs

    pub posted_at : (l : Ledger) (cs : List Charge) (k : ℕ) → k < length (column l) → get_or (column (posted l cs)) k 0 ≡ get_or (column l) k 0 + sum (λ c. only (eqb (side c) k) c.cents) cs
    posted_at l cs k h = rw (posts l cs) (booking_at side (column l) cs k h)

    pub posted_total : (l : Ledger) (cs : List Charge) (n : ℕ) → length (column l) ≡ n → All (λ c. side c < n) cs → total (column (posted l cs)) ≡ total (column l) + cents cs
    posted_total l cs n e h = rw (posts l cs) (booking_total side (column l) cs n e h)

    pub posted_most : (l : Ledger) (cs : List Charge) → total (column (posted l cs)) ≤ total (column l) + cents cs
    posted_most l cs = rw (posts l cs) (booking_most side (column l) cs)

    -- a place after a list of calls is that before it, and what the list's charges book there
    pub run_at : (b : Book) (cs : List Call) (k : ℕ) → k < length (column b.ledger) → get_or (column (run b cs).ledger) k 0 ≡ get_or (column b.ledger) k 0 + sum (λ c. only (eqb (side c) k) c.cents) (all_charges b cs)
    unfolding run all_charges
    run_at b [] k h = omega arith
    run_at b (c ∷ cs) k h =
        let same : length (column (next b c).ledger) ≡ length (column b.ledger) = ap (λ (l : Ledger). length (column l)) (next_ledger b c) ∙ posted_length b.ledger (charged b c) in
        omega (
          arith,
          run_at (next b c) cs k (omega arith),
          ap (λ (l : Ledger). get_or (column l) k 0) (next_ledger b c),
          posted_at b.ledger (charged b c) k h,
          sum_append (λ c. only (eqb (side c) k) c.cents) (charged b c) (all_charges (next b c) cs),
        )

pub posted_places : (l : Ledger) (cs : List Charge) → Places l → Places (posted l cs)
posted_places l cs h =
    record {
      credits = posted_length (λ l. l.credits) (λ c. c.payee) posts_credits l cs ∙ h.credits;
      debits = posted_length (λ l. l.debits) (λ c. c.payer) posts_debits l cs ∙ h.debits;
    }

pub done_places : (b : Book) (e : Event) → Places b.ledger → Places (done b e).ledger
done_places b e p = rw (done_ledger b e) (posted_places b.ledger (charges b e) p)

pub run_places : (b : Book) (cs : List Call) → Places b.ledger → Places (run b cs).ledger
run_places b cs h = run_keeps (λ b. Places b.ledger) (λ b c e p. done_places b (event_of c) p) b cs h

pub new_places : (opening : Opening) → Places (new opening).ledger
unfolding new
new_places register = record { credits = length-replicate {A = ℕ} 64 0; debits = length-replicate {A = ℕ} 64 0 }

-- an account after a list of calls is that before it, and what the list's charges name it for
pub run_credit : (b : Book) (cs : List Call) (k : ℕ) → Places b.ledger → k < 64 → get_or (run b cs).ledger.credits k 0 ≡ get_or b.ledger.credits k 0 + credit_of k (all_charges b cs)
unfolding credit_of
run_credit b cs k p h = run_at (λ l. l.credits) (λ c. c.payee) posts_credits b cs k (omega arith)

pub run_debit : (b : Book) (cs : List Call) (k : ℕ) → Places b.ledger → k < 64 → get_or (run b cs).ledger.debits k 0 ≡ get_or b.ledger.debits k 0 + debit_of k (all_charges b cs)
unfolding debit_of
run_debit b cs k p h = run_at (λ l. l.debits) (λ c. c.payer) posts_debits b cs k (omega arith)

-- "Accounts start at 0 cents"
new_credit : (opening : Opening) (k : ℕ) → k < 64 → get_or (new opening).ledger.credits k 0 ≡ 0
unfolding new
new_credit opening k h = get_or-replicate {A = ℕ} 64 k 0 0 h

new_debit : (opening : Opening) (k : ℕ) → k < 64 → get_or (new opening).ledger.debits k 0 ≡ 0
unfolding new
new_debit opening k h = get_or-replicate {A = ℕ} 64 k 0 0 h

-- every account is the charging rules summed over the list
pub accounts : (opening : Opening) (cs : List Call) (k : ℕ) → k < 64 → balance (run (new opening) cs) k ≡ sub_ℕ (credit_of k (all_charges (new opening) cs)) (debit_of k (all_charges (new opening) cs))
unfolding balance
accounts opening cs k h =
    let p : Places (new opening).ledger = new_places opening in
    let credits : get_or (run (new opening) cs).ledger.credits k 0 ≡ credit_of k (all_charges (new opening) cs) = omega (arith, run_credit (new opening) cs k p h, new_credit opening k h) in
    let debits : get_or (run (new opening) cs).ledger.debits k 0 ≡ debit_of k (all_charges (new opening) cs) = omega (arith, run_debit (new opening) cs k p h, new_debit opening k h) in
    ap (λ (n : ℕ). sub_ℕ n (get_or (run (new opening) cs).ledger.debits k 0)) credits
    ∙ ap (λ (n : ℕ). sub_ℕ (credit_of k (all_charges (new opening) cs)) n) debits

-- and each call moves it by its own charges alone
pub next_balance : (b : Book) (c : Call) (k : ℕ) → Places b.ledger → k < 64 → balance (next b c) k ≡ balance b k +ℤ sub_ℕ (credit_of k (charged b c)) (debit_of k (charged b c))
unfolding balance credit_of debit_of
next_balance b c k p h =
    rw (next_ledger b c, posted_at (λ l. l.credits) (λ c. c.payee) posts_credits b.ledger (charged b c) k (omega (arith, p.credits)), posted_at (λ l. l.debits) (λ c. c.payer) posts_debits b.ledger (charged b c) k (omega (arith, p.debits)))
    (sym (sub_add (get_or b.ledger.credits k 0) (get_or b.ledger.debits k 0) (credit_of k (charged b c)) (debit_of k (charged b c))))

-- All accounts together

-- what must be known of a book for its charges to be booked
pub record Accountable (b : Book) : Type 0 where
  pub positions : All (Fair b.opening.register.count b.day) b.positions
  pub awards : All AwardFits b.awards

abbrev Account : Position → Type 0
Account p = p.member < 64

-- account 0
house : 0 < 64
house = omega arith

charge_booked : (member : ℕ) (a : Amount) → member < 64 → Booked (charge member a)
unfolding charge
charge_booked member (Debit n) h = record { payer = omega arith; payee = omega arith }
charge_booked member (Credit n) h = record { payer = omega arith; payee = omega arith }

module _ (b : Book) (h : Accountable b) where
  member_account : (n : ℕ) → (position_of b n).member < 64
  member_account n =
      nth_anywhere no_position Account b.positions n (omega arith)
      (all_of (Fair b.opening.register.count b.day) Account b.positions (λ p f. omega (arith, f.member)) h.positions)

  cash_booked : (n : ℕ) (xs : List Piece) → All Booked (cash_charges b n xs)
  unfolding cash_charges cash_charges_by payment
  cash_booked n xs =
      all_append Booked (map (payment b.positions) xs) _
      (all_map Booked (payment b.positions) (λ x. Unit {0}) xs (λ x u. record { payer = member_account x.short; payee = member_account x.long }) (all_any (λ x. Unit {0}) xs (λ x. tt)))
      (record { payer = member_account n; payee = house }, tt)

  award_booked : (a : Award) → AwardFits a → All Booked (award_fines b a)
  unfolding award_fines
  award_booked a f =
      let offerer : a.offerer < 64 = omega (arith, f.offerer) in
      let security = (position_of b a.position).security in
      all_keep Booked (not a.confirmed && ltb 0 (latest_of b security))
      (record { payer = a.offerer; payee = 0; cents = award_fine (class_of b security) (a.quantity * latest_of b security) })
      [] (λ e. record { payer = offerer; payee = house }) tt

  late_booked : (p : Position) → Fair b.opening.register.count b.day p → All Booked (late_fines b p)
  unfolding late_fines
  late_booked p f =
      let member : p.member < 64 = omega (arith, f.member) in
      let latest = latest_of b p.security in
      all_keep Booked (p.short && due b.day p && eqb (class_of b p.security) 1 && ltb 0 latest)
      (record { payer = p.member; payee = 0; cents = late_fine (p.unsettled * latest) })
      [] (λ e. record { payer = member; payee = house }) tt

  -- each call charges accounts that are there
  pub booked : (e : Event) → All Booked (charges b e)
  unfolding charges buy_in_charges close_charges
  booked (event.Trade t) = tt
  booked (event.Price p) = tt
  booked (event.Delivery d) = tt
  booked (event.Attempt a) = tt
  booked (event.Offer o) = tt
  booked (event.Award a) = tt
  booked (event.Confirm c) = (charge_booked (position_of b (award_of b c.award).position).member _ (member_account (award_of b c.award).position), tt)
  booked (event.Cash c) = cash_booked c.position (hands_out b (event.Cash c))
  booked event.Close =
      all_append Booked (each (award_fines b) b.awards) (each (late_fines b) b.positions)
      (all_each Booked (award_fines b) AwardFits b.awards award_booked h.awards)
      (all_each Booked (late_fines b) (Fair b.opening.register.count b.day) b.positions late_booked h.positions)
  booked (event.PairOff x) = tt

pub posted_balanced : (l : Ledger) (cs : List Charge) → Places l → All Booked cs → Balanced l → Balanced (posted l cs)
posted_balanced l cs p h e =
    omega (
      arith,
      posted_total (λ l. l.credits) (λ c. c.payee) posts_credits l cs 64 p.credits (all_of Booked (λ c. c.payee < 64) cs (λ c k. k.payee) h),
      posted_total (λ l. l.debits) (λ c. c.payer) posts_debits l cs 64 p.debits (all_of Booked (λ c. c.payer < 64) cs (λ c k. k.payer) h),
    )

pub done_balanced : (b : Book) (e : Event) → Accountable b → Places b.ledger → Balanced b.ledger → Balanced (done b e).ledger
done_balanced b e a p h = rw (done_ledger b e) (posted_balanced b.ledger (charges b e) p (booked b a e) h)

pub new_balanced : (opening : Opening) → Balanced (new opening).ledger
unfolding new
new_balanced register = refl

-- all 64 accounts add up to zero
pub balanced_zero : (b : Book) → Places b.ledger → Balanced b.ledger → sumℤ (balance b) (range 0 64) ≡ pos 0
unfolding balance
balanced_zero b p h =
    let credits = sum_places b.ledger.credits 64 p.credits in
    let debits = sum_places b.ledger.debits 64 p.debits in
    sum_sub (λ k. get_or b.ledger.credits k 0) (λ k. get_or b.ledger.debits k 0) (range 0 64)
    ∙ ap (λ (n : ℕ). sub_ℕ n (sum (λ k. get_or b.ledger.debits k 0) (range 0 64))) (credits ∙ h ∙ sym debits)
    ∙ sub_self (sum (λ k. get_or b.ledger.debits k 0) (range 0 64))

-- Where every book that the calls reach is accountable (an invariant that the accepted calls keep says so), its accounts add up to zero.
module _ (Holds : Book → Type 0) (step : (b : Book) (c : Call) → refusal b c ≡ 0 → Holds b → Holds (done b (event_of c))) (accountable : (b : Book) → Holds b → Accountable b) where
  pub record Kept (b : Book) : Type 0 where
    pub holds : Holds b
    pub places : Places b.ledger
    pub balanced : Balanced b.ledger

  pub kept_step : (b : Book) (c : Call) → refusal b c ≡ 0 → Kept b → Kept (done b (event_of c))
  kept_step b c e h =
      record {
        holds = step b c e h.holds;
        places = done_places b (event_of c) h.places;
        balanced = done_balanced b (event_of c) (accountable b h.holds) h.places h.balanced;
      }

  pub run_kept : (opening : Opening) (cs : List Call) → Holds (new opening) → Kept (run (new opening) cs)
  run_kept opening cs h =
      run_keeps Kept kept_step (new opening) cs (record { holds = h; places = new_places opening; balanced = new_balanced opening })

  pub accounts_zero : (opening : Opening) (cs : List Call) → Holds (new opening) → sumℤ (balance (run (new opening) cs)) (range 0 64) ≡ pos 0
  accounts_zero opening cs h =
      let k = run_kept opening cs h in
      balanced_zero (run (new opening) cs) k.places k.balanced
