-- Charges that are posted one list after the other, and the room that is left for them.
use Prim.Native.Nat.{ℕ, ◌+◌, ◌≤◌}
use native.Mathlib.Omega.{arith}
use mathlib.Core.Path.{◌≡◌, refl}
use mathlib.Core.List.{List, [], ◌∷◌, ◌++◌}
use Rattle.laws.specs.Listed.{sum_append}
use Rattle.laws.specs.Integers.{total}
use Rattle.plain.specs.declared.Ledger.{Ledger}
use Rattle.plain.specs.Charging.{Charge, credited, debited, posted, raise}
use Rattle.plain.specs.Sound.{cents}
use Rattle.plain.proofs.Accounts.{posts_credits, posts_debits, posted_most, posted_places}
use Rattle.ledger.specs.Posts.{Room}

pub credits_most : (l : Ledger) (cs : List Charge) → total (posted l cs).credits ≤ total l.credits + cents cs
credits_most = posted_most (λ l. l.credits) (λ c. c.payee) posts_credits

pub debits_most : (l : Ledger) (cs : List Charge) → total (posted l cs).debits ≤ total l.debits + cents cs
debits_most = posted_most (λ l. l.debits) (λ c. c.payer) posts_debits

credited_append : (l : List ℕ) (xs ys : List Charge) → credited (credited l xs) ys ≡ credited l (xs ++ ys)
unfolding credited
credited_append l [] ys = refl
credited_append l (x ∷ xs) ys = credited_append (raise l x.payee x.cents) xs ys

debited_append : (l : List ℕ) (xs ys : List Charge) → debited (debited l xs) ys ≡ debited l (xs ++ ys)
unfolding debited
debited_append l [] ys = refl
debited_append l (x ∷ xs) ys = debited_append (raise l x.payer x.cents) xs ys

-- one list of charges posted after another
pub posted_append : (l : Ledger) (xs ys : List Charge) → posted (posted l xs) ys ≡ posted l (xs ++ ys)
unfolding posted
posted_append l xs ys = λ i. record { credits = credited_append l.credits xs ys i; debits = debited_append l.debits xs ys i }

-- the room for both lists is room for the first, and then for the second
pub room_first : (l : Ledger) (xs ys : List Charge) → Room l (xs ++ ys) → Room l xs
room_first l xs ys h =
    let joined = sum_append (λ (c : Charge). c.cents) xs ys in
    record { places = h.places; credits = omega (arith, h.credits); debits = omega (arith, h.debits) }

pub room_then : (l : Ledger) (xs ys : List Charge) → Room l (xs ++ ys) → Room (posted l xs) ys
room_then l xs ys h =
    let joined = sum_append (λ (c : Charge). c.cents) xs ys in
    record {
      places = posted_places l xs h.places;
      credits = omega (arith, h.credits, credits_most l xs);
      debits = omega (arith, h.debits, debits_most l xs);
    }
