use Prim.Native.Nat.{ℕ, ◌+◌, ◌≤◌, ◌<◌}
use native.Mathlib.Omega.{arith}
use native.Mathlib.Nat.{eq-or-lt_of_le}
use mathlib.Core.Path.{◌≡◌, ap, sym, ◌∙◌}
use mathlib.Core.Logic.{⊎_elim}
use mathlib.Core.List.{List}
use lib.ListN.{length, get_or}
use lib.Seq.{get_or-take, length-take-le}
use Rattle.laws.specs.Alls.{all_at}
use Rattle.plain.specs.declared.Position.{Position}
use Rattle.plain.specs.Book.{no_position}
use Rattle.laws.specs.Asked.{Within}
use Rattle.tables.specs.Tables.{positions}
use Rattle.rows.specs.Rows.{rows_of}
use Rattle.tables.specs.Lent.{position_table}
use Rattle.tables.specs.Late.{LateBefore}
use Rattle.failing.specs.Counts.{Counted}
use Rattle.failing.proofs.Raising.{counted_before, counted_whole, few_counted, one_more, none_more, late_before_end}
use Rattle.failing.proofs.raise_late.Goals as goal
use Rattle.failing.proofs.raise_late.Goals.{then-is_open_short, else-is_open_short}
use Rattle.failing.proofs.raise_late.Lts as lts
use Rattle.failing.proofs.raise_late.Tie as tie
use Rattle.failing.proofs.raise_late.Reads as reads

abbrev Start : Type 0
Start = lts.Start tie.the-claims reads.Pre reads.Post goal.the-invariant-loop-i goal.the-decreases-loop-i

abbrev At-loop-i : Type 0
At-loop-i = lts.At-loop tie.the-claims reads.Pre reads.Post goal.the-invariant-loop-i goal.the-decreases-loop-i

abbrev After-row_at-p : Type 0
After-row_at-p = lts.After-row_at tie.the-claims reads.Pre reads.Post goal.the-invariant-loop-i goal.the-decreases-loop-i

-- the positions of the table
abbrev table : Start → List Position
table c = positions (position_table c.args.rows.now c.args.held)

long : (c : Start) → length (table c) ≡ c.args.held
unfolding positions
long c = length-take-le c.args.held (rows_of c.args.rows.now) (omega (arith, c.requires.0.fit.places, c.requires.0.fit.held))

at_place : (c : Start) (i : ℕ) → i < c.args.held → get_or (rows_of c.args.rows.now) i no_position ≡ get_or (table c) i no_position
unfolding positions
at_place c i l = sym (get_or-take c.args.held (rows_of c.args.rows.now) i no_position l)

-- the row that is read
module _ (c : After-row_at-p) where
  abbrev start : Start
  start = c.before.before.before.before.before.before

  abbrev place : ℕ
  place = c.loop-i.i

  inside : place < length (table start)
  inside = rw (long start) c.loop-i-test.true

  row_is : c.row_at-p.result ≡ get_or (table start) place no_position
  row_is = c.row_at-p.ensures ∙ at_place start place c.loop-i-test.true

  row_late : c.row_at-p.result.settlement.0 < start.args.day.0 + 1
  row_late =
      omega (arith, c.if-day-settlement_at.false, c.settlement_at.ensures, ap (λ (p : Position). p.settlement.0) c.row_at-p.ensures)

pub loop-i-init : goal.loop-i-init
loop-i-init c =
    let b = c.requires.3 in
    (counted_before _ _ _ _ _ _ b (omega arith) c.requires.2, λ j l. omega (arith, b.earlier j l))

pub with_late_short-requires : goal.with_late_short-requires
with_late_short-requires c =
    let h = c.loop-i.invariant.0 in
    let s = rw (← row_is c.before.before.before.before) at (all_at (λ (p : Position). Within 1 32 p.security) (table (start c.before.before.before.before)) (place c.before.before.before.before) no_position (inside c.before.before.before.before) (start c.before.before.before.before).requires.0.securities) in
    let m = rw (← row_is c.before.before.before.before) at (all_at (λ (p : Position). p.member ≤ 63) (table (start c.before.before.before.before)) (place c.before.before.before.before) no_position (inside c.before.before.before.before) (start c.before.before.before.before).requires.0.members) in (
      record { securities = h.securities; places = h.places; within = s; below = m },
      rw (h.counted _ _ s m) (omega (arith, few_counted ((start c.before.before.before.before).args.day.0 + 1) (table (start c.before.before.before.before)) (place c.before.before.before.before) c.row_at-p.result.security c.row_at-p.result.member, (start c.before.before.before.before).requires.0.fit.held)),
    )

-- the next place is late too
late_on : (c : After-row_at-p) (j : ℕ) → j < place c + 1 → (get_or (table (start c)) j no_position).settlement.0 < (start c).args.day.0 + 1
late_on c j l =
    ⊎_elim
    (λ e. omega (arith, row_late c, ap (λ (p : Position). p.settlement.0) (row_is c), ap (λ (k : ℕ). (get_or (table (start c)) k no_position).settlement.0) e))
    (λ k. c.loop-i.invariant.1 j k)
    (eq-or-lt_of_le (omega (arith, l)))

pub loop-i-preserved : goal.loop-i-preserved
loop-i-preserved c =
    let answer = c.is_open_short.ensures in
    elim c.if-is_open_short.branch [
      | then-is_open_short w ↦ (rw (w.words-is, w.counts-is) (w.with_late_short.ensures _ _ _ _ c.loop-i.invariant.0 (one_more _ _ _ _ (inside c.before.before) (row_is c.before.before) (row_late c.before.before) (sym answer ∙ w.if-is_open_short.true))), late_on c.before.before)
      | else-is_open_short w ↦ (rw (w.words-is, w.counts-is) (none_more _ _ _ _ (inside c.before.before) (row_is c.before.before) (row_late c.before.before) (sym answer ∙ w.if-is_open_short.false) _ _ c.loop-i.invariant.0), late_on c.before.before)
    ]

-- what the walk leaves, where it stops
stopped : (c : At-loop-i) → c.loop-i.i ≤ c.args.held → (c.loop-i.i < length (table c.before) → c.args.day.0 + 1 ≤ (get_or (table c.before) c.loop-i.i no_position).settlement.0)
    → Counted (c.args.day.0 + 1) (table c.before) c.loop-i.words c.loop-i.counts × LateBefore (c.args.day.0 + 1) (table c.before) c.loop-i.i
stopped c most here =
    let b = late_before_end (c.args.day.0 + 1) (table c.before) c.loop-i.i c.requires.1 (omega (arith, long c.before)) c.loop-i.invariant.1 here in
    (counted_whole _ _ _ _ _ _ b (omega arith) c.loop-i.invariant.0, b)

pub returns-then-day-settlement_at : goal.returns-then-day-settlement_at
returns-then-day-settlement_at c =
    stopped c.before.before.before.before (omega (arith, c.loop-i-test.true))
    (λ l.
    rw (← at_place c.before.before.before.before.before c.loop-i.i c.loop-i-test.true) (omega (arith, c.if-day-settlement_at.true, c.settlement_at.ensures)))

pub returns : goal.returns
returns c =
    let end : c.loop-i.i ≡ c.args.held = omega (arith, c.requires.3.inside, long c.before.before, c.loop-i-test.false) in
    rw end at (stopped c.before (omega arith) (λ l. absurd (omega (arith, l, long c.before.before, c.loop-i-test.false))))
