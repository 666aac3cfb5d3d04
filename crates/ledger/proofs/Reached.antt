-- What posting asks holds of the plain books that histories reach, by their invariants.
use Prim.Native.Nat.{ℕ, ◌≤◌, ◌<◌}
use native.Mathlib.Omega.{arith}
use mathlib.Core.Path.{◌≡◌, ap}
use mathlib.Core.List.{List}
use mathlib.Core.Bool.{true}
use lib.ListN.{length}
use lib.Seq.{length-take-le}
use Rattle.laws.specs.Lists.{All}
use Rattle.laws.specs.Alls.{all_of, all_both}
use Rattle.laws.specs.Integers.{total}
use Rattle.events.specs.declared.Event.{Event}
use Rattle.plain.specs.declared.Position.{Position}
use Rattle.plain.specs.declared.Piece.{Piece}
use Rattle.plain.specs.declared.Manner.{Manner}
use Rattle.plain.specs.declared.Ledger.{Ledger}
use Rattle.plain.specs.Book.{Book}
use Rattle.plain.specs.Charging.{Charge, posted}
use Rattle.plain.specs.Calls.{charges, done}
use Rattle.plain.specs.Invariants.{Fair, AwardFits, DueLong, Deals}
use Rattle.plain.proofs.Accounts.{Accountable, posts_credits, posted_total, done_ledger, booked}
use Rattle.plain.specs.Sound.{marked, AuctionedBook, Places, Booked, Balanced, Bound}
use Rattle.plain.proofs.Awards.{mark_of}
use Rattle.tables.specs.Tables.{Positions, positions, PositionsFit}
use Rattle.ledger.specs.Posts.{Room}
use Rattle.ledger.specs.Tabled.{Accounted, Awarded, Paired}

-- Room: the totals after the charges are within the bound
pub room_of : (l : Ledger) (cs : List Charge) → Places l → Balanced l → All Booked cs → total (posted l cs).credits ≤ 100000000000000000 → Room l cs
room_of l cs p e h most =
    let gained = posted_total (λ l. l.credits) (λ c. c.payee) posts_credits l cs 64 p.credits (all_of Booked (λ c. c.payee < 64) cs (λ c k. k.payee) h) in
    record { places = p; credits = omega arith; debits = omega arith }

-- for the charges of every call that is accepted
pub call_room : (b : Book) (e : Event) → Accountable b → Places b.ledger → Balanced b.ledger → Bound (done b e) → (done b e).past ≤ 512 → Room b.ledger (charges b e)
call_room b e a p h k few =
    room_of b.ledger (charges b e) p h (booked b a e) (omega (arith, k.day, k.cents, ap (λ (l : Ledger). total l.credits) (done_ledger b e)))

-- The tables

pub positions_count : (p : Positions) → PositionsFit p → length (positions p) ≡ p.count
unfolding positions
positions_count p h = length-take-le p.count p.items (omega (arith, h.places, h.held))

module _ (count day : ℕ) (ps : List Position) (h : All (Fair count day) ps) where
  pub all_accounted : count ≤ 32 → All Accounted ps
  all_accounted few =
      all_of (Fair count day) Accounted ps
      (λ p f. record { member = omega (arith, f.member.below); security = record { above = f.security.above; below = omega (arith, f.security.below) } })
      h

pub all_awarded : (b : Book) → AuctionedBook b → All (Awarded (length b.positions)) b.awards
all_awarded b h =
    all_of (λ a. AwardFits a × (marked b.marks a.position ≡ true)) (Awarded (length b.positions)) b.awards
    (λ a f. record { offerer = omega (arith, f.0.offerer.below); position = (mark_of h a.position f.1).held })
    (all_both AwardFits (λ a. marked b.marks a.position ≡ true) b.awards h.awards_fit_lem h.awards_marked)

pub all_paired : (b : Book) (manner : Manner) (n q : ℕ) (xs : List Piece) → Deals b manner n q xs → All (Paired (length b.positions)) xs
all_paired b manner n q xs h =
    all_of (λ x. (x.short ≡ n) × DueLong b _ x.long) (Paired (length b.positions)) xs
    (λ x f. record { short = rw f.0 h.dealable.held; long = f.1.held })
    (all_both (λ x. x.short ≡ n) (λ x. DueLong b _ x.long) xs h.shorts h.longs)
