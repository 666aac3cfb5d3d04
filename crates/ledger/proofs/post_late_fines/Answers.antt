use native.Mathlib.Omega.{arith}
use Prim.Native.Nat.{ℕ, ◌+◌, ◌-◌, ◌≤◌, ◌<◌}
use mathlib.Core.Path.{◌≡◌, ap}
use mathlib.Core.List.{◌∷◌}
use lib.ListN.{length, get_or}
use lib.Seq.{get_or-take, length-take-le}
use Rattle.laws.specs.declared.BusinessDay.{BusinessDay}
use Rattle.plain.specs.declared.Position.{Position}
use Rattle.plain.specs.Book.{no_position, new, no_price, nth}
use Rattle.tables.specs.Tables as tables
use Rattle.tables.specs.Tables.{Positions, positions}
use Rattle.rows.specs.Rows.{rows_of}
use Rattle.tables.specs.Lent.{position_table}
use Rattle.ledger.specs.Parts.{book_of, late_fines_of}
use Rattle.ledger.specs.Tabled.{Accounted}
use Rattle.ledger.proofs.Posting.{Posting, ahead, next_chargeable, posting_start, posting_one, place_none, place_some, place_rest}
use Rattle.ledger.proofs.Elements.{positions_long, position_has}
use Rattle.ledger.proofs.Fines.{class_read, latest_read, rest_not_due, late_free, late_fined}
use Rattle.ledger.proofs.post_late_fines.Goals as goal
use Rattle.ledger.proofs.post_late_fines.Goals.{then-short_is_fined, else-short_is_fined}
use Rattle.ledger.proofs.post_late_fines.Invariants.{fines_of, Finable}
use Rattle.ledger.proofs.post_late_fines.Lts as lts
use Rattle.ledger.proofs.post_late_fines.Tie as tie
use Rattle.ledger.proofs.post_late_fines.Reads as reads

abbrev Start : Type 0
Start = lts.Start tie.the-claims reads.Pre reads.Post goal.the-invariant-loop-i goal.the-decreases-loop-i

abbrev After-row_at-short : Type 0
After-row_at-short = lts.After-row_at tie.the-claims reads.Pre reads.Post goal.the-invariant-loop-i goal.the-decreases-loop-i

abbrev After-late_fine-fine : Type 0
After-late_fine-fine = lts.After-late_fine tie.the-claims reads.Pre reads.Post goal.the-invariant-loop-i goal.the-decreases-loop-i

abbrev start : After-row_at-short → Start
start r = r.before.before.before

abbrev place : After-row_at-short → ℕ
place r = r.loop-i.i

-- the same of what the function was given
abbrev FinableAt : Start → ℕ → BusinessDay → Type 0
FinableAt s = let a = s.args in Finable a.ledger.now a.rows.now a.until a.prices a.register

asked : (s : Start) → FinableAt s s.requires.0 s.requires.1
asked s = (s.requires.2, s.requires.3)

module _ (s : Start) (held : ℕ) (day : BusinessDay) (h : FinableAt s held day) where
  fits : held ≤ length (rows_of s.args.rows.now)
  fits = positions_long (position_table s.args.rows.now held) h.0.positions_fit

  -- a position before the place is one of those held, and is due
  held_there : (i : ℕ) → i < s.args.until → i < held
  unfolding positions
  held_there i less = omega (arith, less, h.1.inside, length-take-le held (rows_of s.args.rows.now) fits)

  due_there : (i : ℕ) → i < s.args.until → (get_or (rows_of s.args.rows.now) i no_position).settlement.0 ≤ day.0
  unfolding positions
  due_there i less = omega (arith, h.1.earlier i less, ap (λ (p : Position). p.settlement.0) (get_or-take held (rows_of s.args.rows.now) i no_position (held_there i less)))

below : (r : After-row_at-short) → place r < (start r).args.until
below r = r.loop-i-test.true

accounted : (r : After-row_at-short) → Accounted r.row_at-short.result
accounted r =
    let s = start r in
    rw r.row_at-short.ensures (position_has (position_table s.args.rows.now s.requires.0) s.requires.2.positions_fit Accounted _ (held_there s _ _ (asked s) _ (below r)) s.requires.2.accounted)

class_of : (r : After-row_at-short) → let a = (start r).args in let s = r.row_at-short.result.security in get_or a.register.classes (s - 1) 0 ≡ nth 0 a.register.classes s
class_of r = class_read (start r).args.register.classes _ (accounted r).security.above

latest_of : (r : After-row_at-short) → let a = (start r).args in let s = r.row_at-short.result.security in get_or a.prices.latest (s - 1) 0 ≡ (nth no_price (tables.prices a.prices) s).price
latest_of r = latest_read (start r).args.prices _ (start r).requires.2.prices_many (accounted r).security

module _ (r : After-row_at-short) (held : ℕ) (day : BusinessDay) (h : FinableAt (start r) held day) where
  is_due : r.row_at-short.result.settlement.0 ≤ day.0
  is_due = rw r.row_at-short.ensures (due_there (start r) held day h (place r) (below r))

-- the short is fined: its charge is the next to be posted
posting : (x : After-late_fine-fine)
    → let a = (start x.before.before.before.before.before.before.before).args in
    (held : ℕ) (day : BusinessDay) → FinableAt (start x.before.before.before.before.before.before.before) held day
    → let f = fines_of day (position_table a.rows.now held) a.prices a.register in
    Posting a.ledger.now (ahead f held (rows_of a.rows.now) 0)
    (record { payer = x.row_at-short.result.member; payee = 0; cents = x.late_fine-fine.result } ∷ ahead f held (rows_of a.rows.now) (place x.before.before.before.before.before.before.before + 1))
    x.loop-i.ledger
unfolding new
posting x held day h =
    place_some _ _ _ (fits (start x.before.before.before.before.before.before.before) held day h) _ _ _ no_position _ (held_there (start x.before.before.before.before.before.before.before) held day h _ (below x.before.before.before.before.before.before.before))
    (rw (← x.row_at-short.ensures) (late_fined _ x.row_at-short.result _ _ _ (is_due x.before.before.before.before.before.before.before held day h) (class_of x.before.before.before.before.before.before.before) (latest_of x.before.before.before.before.before.before.before) x.short_is_fined.ensures _ _ x.if-short_is_fined.true x.value_of.ensures x.late_fine-fine.ensures))
    (x.loop-i.invariant held day h)

pub loop-i-init : goal.loop-i-init
unfolding late_fines_of positions
loop-i-init c = λ held day h. posting_start _ _ h.0.room

pub row_at-short-requires : goal.row_at-short-requires
row_at-short-requires c =
    omega (arith, held_there c.before.before _ _ (asked c.before.before) _ c.loop-i-test.true, c.requires.2.positions_fit.held)

pub overflow_sub-k : goal.overflow_sub-k
overflow_sub-k c = omega (arith, (accounted c.before).security.above)

pub bounds-register-k : goal.bounds-register-k
bounds-register-k c = omega (arith, (accounted c.before).security.below)

pub bounds-prices-k : goal.bounds-prices-k
bounds-prices-k c = omega (arith, (accounted c.before.before).security.below)

pub post-requires : goal.post-requires
post-requires c =
    next_chargeable _ _ _ _ _ (posting c.before _ _ (asked (start c.before.before.before.before.before.before.before.before))) (record { payer = (accounted c.before.before.before.before.before.before.before.before).member; payee = omega arith })

pub loop-i-preserved : goal.loop-i-preserved
unfolding new
loop-i-preserved c =
    elim c.if-short_is_fined.branch [
      | then-short_is_fined w ↦
          λ held day h.
          rw (w.ledger-is, w.post.ensures)
          (posting_one _ _ _ _ _ (posting (record { before = record { before = record { before = c.before; if-short_is_fined = w.if-short_is_fined }; value_of = w.value_of }; late_fine-fine = w.late_fine-fine }) held day h))
      | else-short_is_fined w ↦
          λ held day h.
          rw (w.ledger-is)
          (place_none _ _ _ (fits (start c.before.before.before.before.before) held day h) _ _ _ no_position (held_there (start c.before.before.before.before.before) held day h _ (below c.before.before.before.before.before))
          (rw (← c.row_at-short.ensures) (late_free _ c.row_at-short.result _ _ _ (is_due c.before.before.before.before.before held day h) (class_of c.before.before.before.before.before) (latest_of c.before.before.before.before.before) c.short_is_fined.ensures w.if-short_is_fined.false))
          (c.loop-i.invariant held day h))
    ]

-- the positions from the place on are not due
pub returns : goal.returns
unfolding late_fines_of positions new
returns c = λ held day fin late.
    let k = c.loop-i in
    let table = position_table c.args.rows.now held in
    let same : k.i ≡ c.args.until = omega (arith, c.loop-i-test.false) in
    place_rest _ _ _ (fits c.before.before held day (fin, late)) _ _ k.i
    (rw same (rest_not_due (book_of c.args.register day.0 (tables.prices c.args.prices) (positions table)) (positions table) c.args.until late))
    (k.invariant held day (fin, late))
