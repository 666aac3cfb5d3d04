-- The charges that a ledger has been posted, with those still to come, are all charges, and it has room for those to come.
use Prim.Native.Nat.{ℕ, ◌+◌, ◌≤◌, ◌<◌}
use native.Mathlib.Omega.{arith}
use mathlib.Core.Path.{◌≡◌, refl, subst}
use mathlib.Core.List.{List, [], ◌∷◌, ◌++◌}
use lib.ListN.{length, get_or, take, drop}
use Rattle.laws.specs.Lists.{All, each}
use Rattle.laws.specs.Integers.{place_le}
use Rattle.rules.specs.declared.Amount.{Amount}
use Rattle.rules.specs.declared.Amount.TheVariants.{Debit, Credit}
use Rattle.plain.specs.declared.Ledger.{Ledger}
use Rattle.plain.specs.Sound.{Booked}
use Rattle.plain.specs.Charging.{Charge, raise, credited, debited, posted, charge}
use Rattle.ledger.proofs.Posts.{room_first, room_then}
use Rattle.ledger.specs.Posts.{Room}
use Rattle.ledger.specs.Tabled.{Chargeable}
use Rattle.ledger.proofs.Elements.{ahead_at, ahead_end}

pub record Posting (before : Ledger) (all ahead : List Charge) (l : Ledger) : Type 0 where
  pub same : posted l ahead ≡ posted before all
  pub room : Room l ahead

-- a ledger after one charge
abbrev pub once : Ledger → Charge → Ledger
once l c = record { credits = raise l.credits c.payee c.cents; debits = raise l.debits c.payer c.cents }

pub posted_one : (l : Ledger) (c : Charge) → once l c ≡ posted l (c ∷ [])
unfolding posted credited debited
posted_one l c = refl

-- the sums fit: no place is above its column's total
module _ (l : Ledger) (c : Charge) (ahead : List Charge) (h : Room l (c ∷ ahead)) (k : ℕ) where
  pub credit_fits : get_or l.credits k 0 + c.cents ≤ 18446744073709551615
  credit_fits = omega (arith, place_le l.credits k, h.credits)

  pub debit_fits : get_or l.debits k 0 + c.cents ≤ 18446744073709551615
  debit_fits = omega (arith, place_le l.debits k, h.debits)

pub posting_start : (l : Ledger) (all : List Charge) → Room l all → Posting l all all l
posting_start l all h = record { same = refl; room = h }

-- the next charge can be posted, and then those after it are still to come
module _ (before : Ledger) (all ahead : List Charge) (c : Charge) (l : Ledger) (h : Posting before all (c ∷ ahead) l) where
  pub next_chargeable : Booked c → Chargeable l c
  next_chargeable booked = record { booked = booked; room = room_first l (c ∷ []) ahead h.room }

  pub posting_one : Posting before all ahead (posted l (c ∷ []))
  unfolding posted credited debited
  posting_one = record { same = h.same; room = room_then l (c ∷ []) ahead h.room }

posting_end : (before : Ledger) (all : List Charge) (l : Ledger) → Posting before all [] l → l ≡ posted before all
unfolding posted credited debited
posting_end before all l h = h.same

none_charged : {A : Type 0} (f : A → List Charge) (xs : List A) → All (λ x. f x ≡ []) xs → each f xs ≡ []
none_charged f [] h = refl
none_charged f (x ∷ xs) h = rw h.0 (none_charged f xs h.1)

-- The charges that a function makes of each of the first n elements of a table, which are posted up to place i

module _ {A : Type 0} (f : A → List Charge) (n : ℕ) (items : List A) where
  abbrev pub ahead : ℕ → List Charge
  ahead i = each f (drop i (take n items))

  abbrev pub PostingAt : Ledger → ℕ → Ledger → Type 0
  PostingAt before i l = Posting before (ahead 0) (ahead i) l

  module _ (long : n ≤ length items) (before l : Ledger) (i : ℕ) where
    at_place : (d : A) → i < n → PostingAt before i l → Posting before (ahead 0) (f (get_or items i d) ++ ahead (i + 1)) l
    at_place d less h = subst (λ (xs : List A). Posting before (ahead 0) (each f xs) l) (ahead_at n items d i long less) h

    pub place_none : (d : A) → i < n → f (get_or items i d) ≡ [] → PostingAt before i l → PostingAt before (i + 1) l
    place_none d less e h =
        subst (λ (cs : List Charge). Posting before (ahead 0) (cs ++ ahead (i + 1)) l) e (at_place d less h)

    pub place_some : (d : A) (c : Charge) → i < n → f (get_or items i d) ≡ c ∷ [] → PostingAt before i l → Posting before (ahead 0) (c ∷ ahead (i + 1)) l
    place_some d c less e h =
        subst (λ (cs : List Charge). Posting before (ahead 0) (cs ++ ahead (i + 1)) l) e (at_place d less h)

    pub place_end : n ≤ i → PostingAt before i l → l ≡ posted before (each f (take n items))
    place_end done h =
        posting_end before (ahead 0) l (subst (λ (xs : List A). Posting before (ahead 0) (each f xs) l) (ahead_end n items i long done) h)

    -- no element from a place on is charged anything
    pub place_rest : All (λ x. f x ≡ []) (drop i (take n items)) → PostingAt before i l → l ≡ posted before (each f (take n items))
    place_rest none h = posting_end before (ahead 0) l (subst (λ (cs : List Charge). Posting before (ahead 0) cs l) (none_charged f (drop i (take n items)) none) h)

-- A buy-in's charge, by what its amount is

module _ (member n : ℕ) (amount found : Amount) (same : found ≡ amount) where
  pub charge_debit : found ≡ Debit n → charge member amount ≡ record { payer = member; payee = 0; cents = n }
  unfolding charge
  charge_debit e = rw (← same, e)

  pub charge_credit : found ≡ Credit n → charge member amount ≡ record { payer = 0; payee = member; cents = n }
  unfolding charge
  charge_credit e = rw (← same, e)
