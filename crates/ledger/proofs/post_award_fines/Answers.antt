use native.Mathlib.Omega.{arith}
use Prim.Native.Nat.{◌+◌, ◌-◌, ◌≤◌}
use mathlib.Core.Path.{◌≡◌, sym, ◌∙◌}
use mathlib.Core.List.{◌∷◌}
use lib.ListN.{length, get_or}
use Rattle.plain.specs.Book.{no_award, new, no_price, nth}
use Rattle.tables.specs.Tables as tables
use Rattle.tables.specs.Tables.{Positions, positions, awards}
use Rattle.rows.specs.Rows.{awards_of}
use Rattle.tables.specs.Lent.{position_table}
use Rattle.ledger.specs.Parts.{award_fines_of}
use Rattle.ledger.specs.Tabled.{Accounted, Awarded}
use Rattle.ledger.proofs.Posting.{Posting, ahead, next_chargeable, posting_start, posting_one, place_none, place_some, place_end}
use Rattle.ledger.proofs.Elements.{element, position_numbered, position_at}
use Rattle.ledger.proofs.Fines.{class_read, latest_read, award_free, award_fined}
use Rattle.ledger.proofs.post_award_fines.Goals as goal
use Rattle.ledger.proofs.post_award_fines.Goals.{then-award_is_fined, else-award_is_fined}
use Rattle.ledger.proofs.post_award_fines.Invariants.{fines_of}
use Rattle.ledger.proofs.post_award_fines.Lts as lts
use Rattle.ledger.proofs.post_award_fines.Tie as tie
use Rattle.ledger.proofs.post_award_fines.Reads as reads

abbrev Start : Type 0
Start = lts.Start tie.the-claims reads.Pre reads.Post goal.the-invariant-loop-i goal.the-decreases-loop-i

abbrev After-award_at-award : Type 0
After-award_at-award = lts.After-award_at tie.the-claims reads.Pre reads.Post goal.the-invariant-loop-i goal.the-decreases-loop-i

abbrev After-row_at-short : Type 0
After-row_at-short = lts.After-row_at tie.the-claims reads.Pre reads.Post goal.the-invariant-loop-i goal.the-decreases-loop-i

abbrev After-award_fine-fine : Type 0
After-award_fine-fine = lts.After-award_fine tie.the-claims reads.Pre reads.Post goal.the-invariant-loop-i goal.the-decreases-loop-i

abbrev table : Start → Positions
table s = position_table s.args.rows.now s.args.held

long : (c : Start) → c.args.awarded ≤ length (awards_of c.args.awards.now)
long c = omega (arith, c.requires.awards_fit_lem.places, c.requires.awards_fit_lem.held)

awarded_at : (r : After-award_at-award) → Awarded r.args.held r.award_at-award.result
unfolding awards
awarded_at r =
    rw r.award_at-award.ensures (element (Awarded _) _ _ no_award _ (long r.before.before.before) r.loop-i-test.true r.requires.awarded)

accounted : (p : After-row_at-short) → Accounted p.row_at-short.result
accounted p =
    rw p.row_at-short.ensures (position_numbered (table p.before.before.before.before.before) p.requires.positions_fit Accounted _ (awarded_at p.before.before).position p.requires.accounted)

class_of : (p : After-row_at-short) → let a = p.args in let s = p.row_at-short.result.security in get_or a.register.classes (s - 1) 0 ≡ nth 0 a.register.classes s
class_of p = class_read p.args.register.classes _ (accounted p).security.above

latest_of : (p : After-row_at-short) → let a = p.args in let s = p.row_at-short.result.security in get_or a.prices.latest (s - 1) 0 ≡ (nth no_price (tables.prices a.prices) s).price
latest_of p = latest_read p.args.prices _ p.requires.prices_many (accounted p).security

-- the award is fined: its charge is the next to be posted
posting : (x : After-award_fine-fine)
    → let f = fines_of (table x.before.before.before.before.before.before.before.before.before.before.before.before) x.args.prices x.args.register in
    Posting x.args.ledger.now (ahead f x.args.awarded (awards_of x.args.awards.now) 0)
    (record { payer = x.award_at-award.result.offerer; payee = 0; cents = x.award_fine-fine.result } ∷ ahead f x.args.awarded (awards_of x.args.awards.now) (x.loop-i.i + 1))
    x.loop-i.ledger
unfolding new
posting x =
    place_some _ _ _ (long x.before.before.before.before.before.before.before.before.before.before.before.before) _ _ _ no_award _ x.loop-i-test.true
    (rw (← x.award_at-award.ensures) (award_fined _ x.award_at-award.result x.row_at-short.result _ _ (position_at (table x.before.before.before.before.before.before.before.before.before.before.before.before) _ (awarded_at x.before.before.before.before.before.before.before.before.before).position ∙ sym x.row_at-short.ensures) (latest_of x.before.before.before.before.before.before.before) x.award_is_fined.ensures _ _ _ x.if-award_is_fined.true (class_of x.before.before.before.before.before.before.before) x.value_of.ensures x.award_fine-fine.ensures))
    x.loop-i.invariant

pub loop-i-init : goal.loop-i-init
unfolding award_fines_of awards
loop-i-init c = posting_start _ _ c.requires.room

pub overflow_sub-place : goal.overflow_sub-place
overflow_sub-place c = omega (arith, (awarded_at c.before).position.above)

pub row_at-short-requires : goal.row_at-short-requires
row_at-short-requires c =
    omega (arith, (awarded_at c.before).position.above, (awarded_at c.before).position.below, c.requires.positions_fit.held)

pub overflow_sub-k : goal.overflow_sub-k
overflow_sub-k c = omega (arith, (accounted c.before).security.above)

pub bounds-prices-k : goal.bounds-prices-k
bounds-prices-k c = omega (arith, (accounted c.before).security.below)

pub post-requires : goal.post-requires
post-requires c =
    next_chargeable _ _ _ _ _ (posting c.before) (record { payer = (awarded_at c.before.before.before.before.before.before.before.before.before.before).offerer; payee = omega arith })

pub loop-i-preserved : goal.loop-i-preserved
unfolding new
loop-i-preserved c =
    elim c.if-award_is_fined.branch [
      | then-award_is_fined w ↦
          rw (w.ledger-is, w.post.ensures)
          (posting_one _ _ _ _ _ (posting (record { before = record { before = record { before = record { before = c.before; if-award_is_fined = w.if-award_is_fined }; class-1 = w.class-1 }; value_of = w.value_of }; award_fine-fine = w.award_fine-fine })))
      | else-award_is_fined w ↦
          rw (w.ledger-is) (place_none _ _ _ (long c.before.before.before.before.before.before.before.before.before) _ _ _ no_award c.loop-i-test.true (rw (← c.award_at-award.ensures) (award_free _ c.award_at-award.result c.row_at-short.result _ _ (position_at (table c.before.before.before.before.before.before.before.before.before) _ (awarded_at c.before.before.before.before.before.before).position ∙ sym c.row_at-short.ensures) (latest_of c.before.before.before.before) c.award_is_fined.ensures w.if-award_is_fined.false)) c.loop-i.invariant)
    ]

pub returns : goal.returns
unfolding award_fines_of awards
returns c = place_end _ _ _ (long c.before.before) _ _ _ c.loop-i-test.false c.loop-i.invariant
