-- The pieces of a cash settlement: a table of them that is gone over for the highest number, and one that is priced in place and paid for.
use Prim.Native.Nat.{ℕ, ◌+◌, ◌-◌, ◌*◌, ◌≤◌, ◌<◌, max}
use native.Mathlib.Omega.{arith}
use native.Mathlib.Numerals.{add-one}
use mathlib.Core.Path.{◌≡◌, refl, ap, sym, ◌∙◌, subst}
use mathlib.Core.List.{List, [], ◌∷◌, ◌++◌, map, append_assoc, append-nil}
use lib.ListN.{length, get_or, take, drop, set, length-set}
use lib.Seq.{take-suc-set, take-set-lt, drop-set-lt}
use Rattle.laws.specs.Lists.{highest}
use Rattle.plain.specs.declared.Position.{Position}
use Rattle.plain.specs.declared.Piece.{Piece}
use Rattle.plain.specs.Book.{no_position}
use Rattle.plain.specs.Charging.{payment, priced_at}
use Rattle.tables.specs.Tables.{Positions}
use Rattle.pieces.specs.Sheet.{with_cents}
use Rattle.ledger.specs.Tabled.{Paired}
use Rattle.ledger.specs.Settling.{payment_at, OwedBy}
use Rattle.ledger.proofs.Elements.{ahead_at, ahead_end, position_at}

-- the first n elements of a table, of which those before place i have been changed by f and the rest is as it was
module _ {A : Type 0} (f : A → A) (n : ℕ) (items : List A) where
  pub record Changing (i : ℕ) (l : List A) : Type 0 where
    pub same : take i l ++ map f (drop i (take n items)) ≡ map f (take n items)
    pub rest : drop i (take n l) ≡ drop i (take n items)
    pub size : length l ≡ length items

  pub changing_start : Changing 0 items
  changing_start = record { same = refl; rest = refl; size = refl }

  module _ (long : n ≤ length items) where
    module _ (i : ℕ) (l : List A) (d : A) (less : i < n) (h : Changing i l) where
      ahead_same : get_or l i d ∷ drop (i + 1) (take n l) ≡ get_or items i d ∷ drop (i + 1) (take n items)
      ahead_same = sym (ahead_at n l d i (omega (arith, h.size)) less) ∙ h.rest ∙ ahead_at n items d i long less

      -- the element at place i is still what it was
      pub changing_at : get_or l i d ≡ get_or items i d
      changing_at = cc ahead_same

      pub changing_one : (y : A) → y ≡ f (get_or l i d) → Changing (i + 1) (set l i y)
      changing_one y e =
          let within : i < length l = omega (arith, h.size) in
          let split : take i l ++ y ∷ map f (drop (i + 1) (take n items)) ≡ map f (take n items) = rw (e, changing_at) (rw (ahead_at n items d i long less) at h.same) in
          let after : drop (i + 1) (take n l) ≡ drop (i + 1) (take n items) = cc ahead_same in
          record {
            same = subst (λ (k : ℕ). take k (set l i y) ++ map f (drop (i + 1) (take n items)) ≡ map f (take n items)) (sym (add-one i)) (rw (take-suc-set l i y within, append_assoc) split);
            rest = rw (take-set-lt n l i y less) (drop-set-lt (i + 1) (take n l) i y (omega arith) ∙ after);
            size = length-set l i y ∙ h.size;
          }

    pub changing_end : (i : ℕ) (l : List A) → n ≤ i → i ≤ n → Changing i l → take n l ≡ map f (take n items)
    changing_end i l done most h =
        let all : i ≡ n = omega arith in
        ap (λ (k : ℕ). take k l) (sym all) ∙ sym (append-nil (take i l)) ∙ (rw (ahead_end n items i long done) at h.same)

-- the highest number that f makes of the first n elements of a table, so far as the elements before place i go
module _ {A : Type 0} (f : A → ℕ) (n : ℕ) (items : List A) where
  abbrev pub Highest : ℕ → ℕ → Type 0
  Highest i m = max m (highest (map f (drop i (take n items)))) ≡ highest (map f (take n items))

  module _ (long : n ≤ length items) (i m : ℕ) (h : Highest i m) where
    pub highest_one : (d : A) (k : ℕ) → i < n → k ≡ max m (f (get_or items i d)) → Highest (i + 1) k
    highest_one d k less e =
        let here : max m (max (f (get_or items i d)) (highest (map f (drop (i + 1) (take n items))))) ≡ highest (map f (take n items)) = rw (ahead_at n items d i long less) at h in
        omega (arith, here, e)

    pub highest_end : n ≤ i → m ≡ highest (map f (take n items))
    highest_end done =
        let here : max m 0 ≡ highest (map f (take n items)) = rw (ahead_end n items i long done) at h in
        omega (arith, here)

module _ (p : Positions) (payer price : ℕ) (x : Piece) (long : Position) (units : ℕ) (h : Paired p.count x) (o : OwedBy payer p x)
    (l : long ≡ get_or p.items (x.long - 1) no_position) (u : units ≡ x.quantity) where
  pub priced_here : with_cents (units * price) x ≡ priced_at price x
  unfolding priced_at
  priced_here = rw u

  pub payment_here : payment_at price p x ≡ record { payer = payer; payee = long.member; cents = units * price } ∷ []
  unfolding payment priced_at
  payment_here = rw (o, position_at p x.long h.long, l, u)
