-- The fines of a close, by the numbers that they are worked out from.
use Prim.Native.Nat.{ℕ, ◌+◌, ◌-◌, ◌*◌, ◌≤◌, ◌<◌}
use native.Mathlib.Omega.{arith}
use mathlib.Core.Path.{◌≡◌, ap, sym}
use mathlib.Core.List.{List, [], ◌∷◌}
use Rattle.std.proofs.Math.Bool.{and-true, and-false}
use mathlib.Core.Bool.{Bool, true, false, not, ◌&&◌}
use lib.ListN.{length, get_or, drop, length-drop}
use lib.Seq.{get_or-drop}
use lib.Dec.{ltb, eqb}
use borrow.Author.Tests.{le-leb, lt-leb}
use Rattle.laws.specs.Limits.{SECURITIES}
use Rattle.laws.specs.Lists.{All}
use Rattle.laws.specs.Alls.{all_places}
use Rattle.laws.specs.Asked.{Within}
use Rattle.rules.specs.Charges.{award_fine, late_fine}
use Rattle.register.specs.declared.Register.{Register}
use Rattle.plain.specs.declared.Position.{Position}
use Rattle.plain.specs.declared.Award.{Award}
use Rattle.plain.specs.declared.Ledger.{Ledger}
use Rattle.plain.specs.declared.Latest.{Latest}
use Rattle.plain.specs.Book.{Book, no_position, no_price, nth, position_of, class_of, latest_of}
use Rattle.plain.proofs.Numbered.{nth_at}
use Rattle.plain.specs.Dealing.{due}
use Rattle.plain.specs.Charging.{posted, credited, debited, award_fines, late_fines}
use Rattle.tables.specs.Tables.{Positions, Awards, prices, awards}
use Rattle.tables.specs.Late.{LateBefore}
use Rattle.tables.specs.Columns.{price_named}
use Rattle.tables.specs.declared.Prices.{Prices}
use Rattle.ledger.specs.Parts.{award_fines_of}

-- the class and the latest price of a security, as they are read at its place
pub class_read : (classes : List ℕ) (s : ℕ) → 1 ≤ s → get_or classes (s - 1) 0 ≡ nth 0 classes s
class_read classes s h = sym (nth_at 0 classes s h)

pub latest_read : (t : Prices) (s : ℕ) → length (prices t) ≡ SECURITIES → Within 1 SECURITIES s → get_or t.latest (s - 1) 0 ≡ (nth no_price (prices t) s).price
latest_read t s many known = ap (λ (l : Latest). l.price) (sym (price_named t s many known))

-- an award on a position whose security has this latest price; `fined` is what the test said
module _
    (b : Book)
    (a : Award)
    (p : Position)
    (latest : ℕ)
    (fined : Bool)
    (at : position_of b a.position ≡ p)
    (known : latest ≡ latest_of b p.security)
    (test : fined ≡ (not a.confirmed && ltb 0 latest))
  where
    pub award_free : fined ≡ false → award_fines b a ≡ []
    unfolding award_fines
    award_free e = rw (at, ← known, ← test, e)

    pub award_fined : (class value fine : ℕ) → fined ≡ true → class ≡ class_of b p.security → value ≡ a.quantity * latest → fine ≡ award_fine class value → award_fines b a ≡ record { payer = a.offerer; payee = 0; cents = fine } ∷ []
    unfolding award_fines
    award_fined class value fine e c v f = rw (at, ← known, ← c, ← test, e, f, v)

-- a position that is not due is not fined
pub late_not_due : (b : Book) (p : Position) → b.day < p.settlement.0 → late_fines b p ≡ []
unfolding late_fines due
late_not_due b p h = rw (lt-leb _ _ h, and-false)

-- so that none behind the place before which positions are due is fined
pub rest_not_due : (b : Book) (ps : List Position) (place : ℕ) → LateBefore (b.day + 1) ps place → All (λ q. late_fines b q ≡ []) (drop place ps)
rest_not_due b ps place h =
    all_places (λ q. late_fines b q ≡ []) (drop place ps) no_position
    (λ j less.
    rw (get_or-drop place ps j no_position)
    (late_not_due b _ (omega (arith, h.later (place + j) (omega arith) (omega (arith, length-drop place ps, less))))))

-- a due position of a security with this class and latest price
module _
    (b : Book)
    (p : Position)
    (class latest : ℕ)
    (fined : Bool)
    (is_due : p.settlement.0 ≤ b.day)
    (of : class ≡ class_of b p.security)
    (known : latest ≡ latest_of b p.security)
    (test : fined ≡ (p.short && eqb class 1 && ltb 0 latest))
  where
    pub late_free : fined ≡ false → late_fines b p ≡ []
    unfolding late_fines due
    late_free e = rw (le-leb _ _ is_due, and-true, ← of, ← known, ← test, e)

    pub late_fined : (value fine : ℕ) → fined ≡ true → value ≡ p.unsettled * latest → fine ≡ late_fine value → late_fines b p ≡ record { payer = p.member; payee = 0; cents = fine } ∷ []
    unfolding late_fines due
    late_fined value fine e v f = rw (le-leb _ _ is_due, and-true, ← of, ← known, ← test, e, f, v)

-- where there is no award, the ledger is as its fines would leave it
pub none_fined : (l : Ledger) (a : Awards) (p : Positions) (prices : Prices) (register : Register) → a.count ≡ 0 → l ≡ posted l (award_fines_of a p prices register)
unfolding award_fines_of awards posted credited debited
none_fined l a p prices register e = rw e
