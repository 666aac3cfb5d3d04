-- Document 02, Slip 6, for each award call of the plain book: what it makes is the cheapest cover of its short, and charges its member least.
use Prim.Native.Nat.{ℕ, ◌+◌, ◌-◌, ◌*◌, ◌≤◌}
use native.Mathlib.Nat.{zero-mul, add-mul}
use native.Mathlib.Omega.{arith}
use mathlib.Core.Path.{◌≡◌, refl, ap, sym, ◌∙◌, subst}
use mathlib.Core.List.{List, [], ◌∷◌, ◌++◌}
use mathlib.Core.Bool.{cond}
use lib.ListN.{length, drop}
use lib.Dec.{leb, eqb}
use borrow.Author.Tests.{eq-eqb, ne_eqb, leb-true, leb-false}
use Rattle.laws.specs.Lists.{All, only}
use Rattle.laws.specs.Asked.{Said, passed, failed, ask}
use Rattle.laws.specs.Listed.{sum_append}
use Rattle.laws.specs.Refusals.{accepted_zero}
use Rattle.rules.specs.declared.Amount.{Amount}
use Rattle.rules.specs.declared.Amount.TheVariants.{Debit, Credit}
use Rattle.rules.specs.Charged.{buy_in_amount}
use Rattle.events.specs.declared.Offer.{Offer}
use Rattle.events.specs.declared.Award as asked
use Rattle.events.specs.declared.Event.{Event}
use Rattle.events.specs.declared.Event.TheVariants as event
use Rattle.plain.specs.declared.Award.{Award}
use Rattle.plain.specs.Book.{Book, position_of}
use Rattle.plain.specs.Charging.{Charge, credit_of, debit_of, charge, buy_in_charges}
use Rattle.plain.specs.Calls.{Call, call, auction_awards, amount, done}
use Rattle.plain.specs.Refusals.{refusal}
use Rattle.plain.specs.Histories.{event_of, next, quantity}
use Rattle.plain.specs.Cover.{takings, cost, awards_by, units_of, cost_of, Cheapest, added, Covered, buy_ins, PaysLeast}
use Rattle.plain.proofs.Accepted.{award_taken}
use Rattle.plain.proofs.AwardSteps.{runs_on_lem}
use Rattle.plain.proofs.Cover.{awards_units, awards_cost, takings_total, cover, way_all, awards_all}

-- EVERY AUCTION

drop_added : {A : Type 0} (xs ys : List A) → drop (length xs) (xs ++ ys) ≡ ys
drop_added [] ys = refl
drop_added (x ∷ xs) ys = drop_added xs ys

module _ (b : Book) (a : asked.Award) (sheet : ℕ) (e : refusal b (call (event.Award a) sheet) ≡ 0) where
  abbrev award_call : Call
  award_call = call (event.Award a) sheet

  new_awards : (next b award_call).awards ≡ b.awards ++ auction_awards b
  unfolding next done
  new_awards = ap (λ (x : Book). x.awards) (accepted_zero (refusal b award_call) (done b (event.Award a)) b e)

  new_units : quantity b award_call ≡ units_of (auction_awards b)
  unfolding quantity amount
  new_units = accepted_zero (refusal b award_call) (amount b (event.Award a)) 0 e

  award_covers : Covered b (next b award_call) a.position (quantity b award_call)
  unfolding auction_awards
  award_covers =
      let new : added b (next b award_call) ≡ auction_awards b =
      ap (λ (l : List Award). drop (length b.awards) l) new_awards ∙ drop_added b.awards (auction_awards b) in
      let on : b.auction.position ≡ a.position = (runs_on_lem b a.position (award_taken b a sheet e).running).1 in
      record {
        kept = rw new new_awards;
        reported = rw new new_units;
        cheapest = rw (new, ← on) (cover (position_of b b.auction.position).unsettled b.auction.offers);
      }

pub covered : (b : Book) (c : Call) (a : asked.Award) → refusal b c ≡ 0 → event_of c ≡ event.Award a → Covered b (next b c) a.position (quantity b c)
covered b (call e sheet) a taken is =
    subst (λ (f : Event). refusal b (call f sheet) ≡ 0 → Covered b (next b (call f sheet)) a.position (quantity b (call f sheet))) (sym is) (award_covers b a sheet) taken

-- IN CENTS

-- the amount of a difference, as the charge of a buy-in is one
abbrev between : ℕ → ℕ → Amount
between u v = cond (leb v u) (Debit (u - v)) (Credit (v - u))

-- what a member is charged by it
one_pays : (m u v : ℕ) → 1 ≤ m → debit_of m (charge m (between u v) ∷ []) + v ≡ u + credit_of m (charge m (between u v) ∷ [])
unfolding debit_of credit_of charge
one_pays m u v h = go (ask (leb v u))
  where
    go : Said (leb v u) → debit_of m (charge m (between u v) ∷ []) + v ≡ u + credit_of m (charge m (between u v) ∷ [])
    go (passed t) = rw (t, eq-eqb m m refl, ne_eqb 0 m (λ z. omega arith)) (omega (arith, leb-true v u t))
    go (failed t) = rw (t, eq-eqb m m refl, ne_eqb 0 m (λ z. omega arith)) (omega (arith, leb-false v u t))

module _ (b : Book) (n : ℕ) (member : 1 ≤ (position_of b n).member) where
  abbrev m : ℕ
  m = (position_of b n).member

  abbrev r : ℕ
  r = (position_of b n).reference

  award_pays : (a : Award) → a.position ≡ n → debit_of m (buy_in_charges b a) + a.quantity * r ≡ a.quantity * a.price + credit_of m (buy_in_charges b a)
  unfolding buy_in_charges
  award_pays a on = rw (on, buy_in_amount a.quantity a.price r) (one_pays m (a.quantity * a.price) (a.quantity * r) member)

  all_pay : (awards : List Award) → All (λ a. a.position ≡ n) awards → debit_of m (buy_ins b awards) + units_of awards * r ≡ cost_of awards + credit_of m (buy_ins b awards)
  unfolding debit_of credit_of
  all_pay [] on = omega (arith, zero-mul r)
  all_pay (a ∷ awards) on =
      omega (
        arith,
        sum_append (λ c. only (eqb c.payer m) c.cents) (buy_in_charges b a) (buy_ins b awards),
        sum_append (λ c. only (eqb c.payee m) c.cents) (buy_in_charges b a) (buy_ins b awards),
        award_pays a on.0,
        all_pay awards on.1,
        add-mul a.quantity (units_of awards) r,
      )

  -- charges that are, to the seller, those of the awards
  pub pays_least : (left : ℕ) (awards : List Award) (charges : List Charge) → All (λ o. o.position ≡ n) b.auction.offers → Cheapest left b.auction.offers awards
      → debit_of m charges ≡ debit_of m (buy_ins b awards) → credit_of m charges ≡ credit_of m (buy_ins b awards) → PaysLeast b n awards charges
  pays_least left awards charges on k debits credits =
      record {
        cents = cents;
        least = λ other w e.
            let ts = takings offers other in
            let same : units_of (awards_by ts) ≡ units_of awards = awards_units ts ∙ takings_total offers other w.one_each ∙ e in
            let dearer : cost_of awards ≤ cost_of (awards_by ts) = rw (awards_cost ts) (unfold cost in k.cheapest other w e) in
            omega (
              arith,
              cents,
              all_pay (awards_by ts) (way_all (λ a. a.position ≡ n) (λ o. o.position ≡ n) (λ o q l m here. here) offers other w on),
              ap (λ (u : ℕ). u * r) same,
              dearer,
            );
      }
    where
      offers : List Offer
      offers = b.auction.offers

      cents : debit_of m charges + units_of awards * r ≡ cost_of awards + credit_of m charges
      cents =
          let here = awards_all k (λ a. a.position ≡ n) (λ o. o.position ≡ n) (λ o q l m here. here) on in
          omega (arith, all_pay awards here, debits, credits)
