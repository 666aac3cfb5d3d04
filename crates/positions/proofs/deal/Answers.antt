use native.Mathlib.Omega.{arith}
use Prim.Native.Nat.{ℕ, ◌≤◌, ◌<◌, ◌-◌, ◌+◌}
use mathlib.Core.Path.{◌≡◌, refl, sym, ap, ◌∙◌}
use mathlib.Core.Logic.{⊎_elim}
use mathlib.Core.List.{List}
use lib.ListN.{length, get_or}
use Rattle.laws.specs.Limits.{PLACES}
use Rattle.plain.specs.Book.{no_position}
use Rattle.rows.specs.Rows.{rows_of}
use Rattle.pieces.specs.Sheet.{pieces_of}
use Rattle.tables.specs.Lent.{position_table, piece_table}
use Rattle.pieces.proofs.Cells.{length_pieces}
use Rattle.pieces.proofs.Filled.{stays_same, stays_piece, piece_fills}
use Rattle.positions.specs.Dealing.{share_of, DealtOut}
use Rattle.positions.proofs.Shares.{due_share_is, share_open, share_left}
use Rattle.positions.proofs.Walk.{State, Stands, Walk, Walked, walk_begin, walk_join, walk_next, stepped_none, stepped_some, walk_over, walk_late, walk_done, here_sized}
use Rattle.positions.proofs.Table.{short_lowerable}
use Rattle.positions.proofs.Lent.{ends, handed_fill, skipped, closed_first, closed_taken, closed_passed, closed_changed}
use Rattle.positions.proofs.deal.Goals as goal
use Rattle.positions.proofs.deal.Lts as lts
use Rattle.positions.proofs.deal.Tie as tie
use Rattle.positions.proofs.deal.Reads as reads

abbrev Start : Type 0
Start = lts.Start tie.the-claims reads.Pre reads.Post goal.the-invariant-loop-i goal.the-decreases-loop-i goal.the-invariant-deal goal.the-decreases-deal

abbrev After-lower : Type 0
After-lower = lts.After-lower tie.the-claims reads.Pre reads.Post goal.the-invariant-loop-i goal.the-decreases-loop-i goal.the-invariant-deal goal.the-decreases-deal

abbrev At-deal : Type 0
At-deal = lts.At-deal tie.the-claims reads.Pre reads.Post goal.the-invariant-loop-i goal.the-decreases-loop-i goal.the-invariant-deal goal.the-decreases-deal

abbrev At-loop-i : Type 0
At-loop-i = lts.At-loop tie.the-claims reads.Pre reads.Post goal.the-invariant-loop-i goal.the-decreases-loop-i goal.the-invariant-deal goal.the-decreases-deal

abbrev After-share_of-units : Type 0
After-share_of-units = lts.After-share_of tie.the-claims reads.Pre reads.Post goal.the-invariant-loop-i goal.the-decreases-loop-i goal.the-invariant-deal goal.the-decreases-deal

abbrev Then-left-eq0 : Type 0
Then-left-eq0 = lts.Then4 tie.the-claims reads.Pre reads.Post goal.the-invariant-loop-i goal.the-decreases-loop-i goal.the-invariant-deal goal.the-decreases-deal

-- where the turn of the inner loop began in which a share is worked out
abbrev turn : After-share_of-units → At-loop-i
turn c = c.before.before.before.before.before

-- where the turn of the outer loop began, with a delivery day
abbrev day_begun : At-loop-i → At-deal
day_begun c = c.before.before.before.before.before

-- where the function began, from where the short is lowered
abbrev opened : After-lower → Start
opened c = c.before.before.before

-- where the function began
abbrev started : At-deal → Start
started c = opened c.before

-- the share with which the quantity is dealt out
abbrev dealt_share : Then-left-eq0 → After-share_of-units
dealt_share c = c.before.before.before.before.before.before

-- the walk is at a place in use
in_table : (c : After-share_of-units) → (turn c).loop-i.i < (started (day_begun (turn c))).args.count
in_table c = c.loop-i-test.true

-- a position of the day that the walk is at is due
is_due : (c : After-share_of-units)
    → (get_or (rows_of (turn c).loop-i.rows) (turn c).loop-i.i no_position).settlement.0 ≤ (started (day_begun (turn c))).args.day.0
is_due c = omega (arith, c.if-settlement_at-settlement.true, c.settlement_at.ensures, (turn c).if-day-settlement.false)

-- what a long takes is its share of what is left
own_share : (c : After-share_of-units)
    → c.share_of-units.result ≡ share_of (day_begun (turn c)).row_at-own.result.security (turn c).loop-i.left (get_or (rows_of (turn c).loop-i.rows) (turn c).loop-i.i no_position)
own_share c = rw c.row_at-long.ensures at c.share_of-units.ensures

-- the walk's state when the short is lowered
abbrev begun : After-lower → State
begun p =
    record {
      items = rows_of p.lower.new.rows;
      shares = pieces_of (opened p).args.sheet.now;
      dealt = 0;
      left = (opened p).args.quantity;
      place = 0;
    }

-- a later state of it, by the numbers that the tables hold
abbrev state : After-lower → List ℕ → List ℕ → ℕ → ℕ → ℕ → State
state p rows sheet dealt left place =
    record { items = rows_of rows; shares = pieces_of sheet; dealt = dealt; left = left; place = place }

-- a walk of this short's quantity from there on
abbrev Walks : After-lower → State → State → Type 0
Walks p =
    Walk (opened p).args.manner (opened p).args.short (opened p).args.day.0 p.row_at-own.result.security (opened p).args.count

-- the places before the start place take nothing
passed_over : (p : After-lower)
    → Walks p (begun p) (state p p.lower.new.rows (opened p).args.sheet.now 0 (opened p).args.quantity (opened p).args.start)
passed_over p =
    skipped _ _ _ _ _ (opened p).requires.dealing _ _ p.row_at-own.ensures _ p.lower.ensures.0
    _ (length_pieces (opened p).args.sheet.now) _ (opened p).requires.within (opened p).requires.closed

-- the walk up to where the turn of the outer loop began
so_far : (d : At-deal) → Walks d.before (begun d.before) (state d.before d.deal.rows d.deal.sheet d.deal.dealt d.deal.left d.deal.i)
so_far d = walk_join _ _ _ _ _ _ _ _ (passed_over d.before) d.deal.invariant.0

-- what the whole walk comes to
dealt_out_lem : (d : At-deal) (rows sheet : List ℕ) (dealt left place : ℕ)
    → Stands (started d).args.count (state d.before rows sheet dealt left place)
    → Walked (started d).args.manner (started d).args.short (started d).args.day.0 d.row_at-own.result.security
    (started d).args.count (begun d.before) (state d.before rows sheet dealt left place)
    → DealtOut (position_table (started d).args.rows.now (started d).args.count) (started d).args.day.0 (started d).args.short (started d).args.quantity (started d).args.manner
    (record { positions = position_table rows (started d).args.count; pieces = piece_table sheet dealt })
dealt_out_lem d rows sheet dealt left place stands walked =
    ends _ _ _ _ _ (started d).requires.dealing _ _ d.row_at-own.ensures _ d.lower.ensures.0
    _ (length_pieces (started d).args.sheet.now) rows _ dealt left place stands walked

pub lower-requires : goal.lower-requires
lower-requires c =
    let f = c.requires in
    (f.rows_length, omega arith, short_lowerable _ _ _ _ f.dealing)

pub deal-init : goal.deal-init
deal-init c = (
  walk_begin _ _ _ _ _ _ (passed_over c).stands,
  c.lower.ensures.1,
  (opened c).requires.sheet_length,
  closed_first _ _ _ _ _ (opened c).requires.dealing _ _ c.row_at-own.ensures _ c.lower.ensures.0
      (begun c).shares (length_pieces (opened c).args.sheet.now) _ (opened c).requires.within (opened c).requires.closed,
  (opened c).requires.some,
  (λ s f. f),
)

pub lower-requires-then-units-gt0 : goal.lower-requires-then-units-gt0
lower-requires-then-units-gt0 c = (
  (turn c.before.before.before.before).loop-i.invariant.3,
  omega (arith, (turn c.before.before.before.before).loop-i.invariant.0.stands.few, in_table c.before.before.before.before),
  record { enough = rw (own_share c.before.before.before.before) (share_open _ _ _); sized = here_sized _ _ (turn c.before.before.before.before).loop-i.invariant.0.stands (in_table c.before.before.before.before) },
)

pub overflow_sub-left : goal.overflow_sub-left
overflow_sub-left c = rw c.share_of-units.ensures (share_left _ _ _)

pub loop-i-preserved : goal.loop-i-preserved
loop-i-preserved c =
    let a = turn c.before in
    let share = due_share_is _ _ _ _ (is_due c.before) ∙ sym (own_share c.before) in
    let within = in_table c.before in
    let more = walk_next _ _ _ _ _ _ _ (state (day_begun a).before c.if-units-gt0.rows c.if-units-gt0.sheet c.if-units-gt0.dealt c.if-units-gt0.left (a.loop-i.i + 1)) a.loop-i.invariant.0 within in (
      ⊎_elim
          (λ w. more (stepped_some _ _ _ _ _ _ _ _ share w.if-units-gt0.true refl (omega (arith, a.loop-i.invariant.0.stands, within)) w.left-is refl (ap rows_of w.rows-is ∙ w.lower-then-units-gt0.ensures.0) (ap pieces_of w.sheet-is ∙ w.put_piece.ensures.pieces) w.dealt-is))
          (λ w. more (stepped_none _ _ _ _ _ _ (share ∙ omega (arith, w.if-units-gt0.false)) w.left-is refl (ap rows_of w.rows-is) (ap pieces_of w.sheet-is) w.dealt-is))
          c.if-units-gt0.branch-raw,
      omega arith,
      λ e. absurd (omega arith),
      ⊎_elim (λ w. ap length w.rows-is ∙ w.lower-then-units-gt0.ensures.1) (λ w. ap length w.rows-is ∙ a.loop-i.invariant.3) c.if-units-gt0.branch-raw,
      ⊎_elim (λ w. ap length w.sheet-is ∙ w.put_piece.ensures.size) (λ w. ap length w.sheet-is ∙ a.loop-i.invariant.4) c.if-units-gt0.branch-raw,
      ⊎_elim
          (λ w. closed_taken _ _ _ _ _ _ _ (ap rows_of w.rows-is ∙ w.lower-then-units-gt0.ensures.0) (own_share c.before) (omega (arith, w.if-left-eq0.false)) (omega (arith, a.loop-i.invariant.0.stands, within)) a.loop-i.invariant.5)
          (λ w. closed_passed _ _ _ _ _ _ (ap rows_of w.rows-is) (own_share c.before) (omega (arith, w.if-units-gt0.false)) a.loop-i.invariant.6 a.loop-i.invariant.5)
          c.if-units-gt0.branch-raw,
      ⊎_elim (λ w. omega (arith, w.left-is, w.if-left-eq0.false)) (λ w. omega (arith, w.left-is, a.loop-i.invariant.6)) c.if-units-gt0.branch-raw,
      ⊎_elim
          (λ w. stays_piece (day_begun a).deal.dealt _ a.loop-i.dealt _ a.loop-i.invariant.7 _ _ _ _ (omega (arith, a.loop-i.invariant.0.stands, within)) a.loop-i.invariant.4 w.put_piece.ensures w.sheet-is w.dealt-is)
          (λ w. stays_same (day_begun a).deal.dealt _ a.loop-i.dealt _ a.loop-i.invariant.7 _ _ w.sheet-is w.dealt-is)
          c.if-units-gt0.branch-raw,
    )

pub returns-after-deal : goal.returns-after-deal
returns-after-deal c =
    let out = dealt_out_lem c.before c.deal.rows c.deal.sheet c.deal.dealt c.deal.left c.deal.i c.deal.invariant.0.stands (walk_over _ _ _ _ _ _ _ (so_far c.before) c.deal-test.false) in
    record {
      dealt = out;
      filled = handed_fill _ _ _ _ _ _ out (c.deal.invariant.5 _ refl);
      rows_length = c.deal.invariant.1;
      sheet_length = c.deal.invariant.2;
      within = omega (arith, c.deal.invariant.0.stands.within);
      closed = rw c.row_at-own.ensures at c.deal.invariant.3;
    }

pub returns-then-day-settlement : goal.returns-then-day-settlement
returns-then-day-settlement c =
    let out = dealt_out_lem c.before.before.before.before c.deal.rows c.deal.sheet c.deal.dealt c.deal.left c.deal.i c.deal.invariant.0.stands (walk_late _ _ _ _ _ _ _ (so_far c.before.before.before.before) c.deal-test.true (omega (arith, c.if-day-settlement.true, c.settlement_at-settlement.ensures))) in
    record {
      dealt = out;
      filled = handed_fill _ _ _ _ _ _ out (c.deal.invariant.5 _ refl);
      rows_length = c.deal.invariant.1;
      sheet_length = c.deal.invariant.2;
      within = omega (arith, c.deal.invariant.0.stands.within);
      closed = rw c.row_at-own.ensures at c.deal.invariant.3;
    }

pub returns-then-left-eq0 : goal.returns-then-left-eq0
returns-then-left-eq0 c =
    let a = turn (dealt_share c) in
    let d = day_begun a in
    let share = due_share_is _ _ _ _ (is_due (dealt_share c)) ∙ sym (own_share (dealt_share c)) in
    let within = in_table (dealt_share c) in
    let last = state d.before c.lower-then-units-gt0.new.rows c.put_piece.new.sheet (a.loop-i.dealt + 1) (a.loop-i.left - (dealt_share c).share_of-units.result) (a.loop-i.i + 1) in
    let w =
    walk_join _ _ _ _ _ _ _ _ (so_far d)
    (walk_next _ _ _ _ _ _ _ last a.loop-i.invariant.0 within
    (stepped_some _ _ _ _ _ _ _ _ share c.if-units-gt0.true refl (omega (arith, a.loop-i.invariant.0.stands, within)) refl refl c.lower-then-units-gt0.ensures.0 c.put_piece.ensures.pieces refl)) in
    let out = dealt_out_lem d _ _ _ _ _ w.stands (walk_done _ _ _ _ _ _ _ w c.if-left-eq0.true) in
    let put = c.put_piece in
    let room : a.loop-i.dealt < PLACES = omega (arith, a.loop-i.invariant.0.stands, within) in
    record {
      dealt = out;
      filled = handed_fill _ _ _ _ _ _ out (piece_fills _ _ _ _ (a.loop-i.invariant.7 _ (d.deal.invariant.5 _ refl)) _ room a.loop-i.invariant.4 put.ensures);
      rows_length = c.lower-then-units-gt0.ensures.1;
      sheet_length = put.ensures.size;
      within = omega (arith, a.loop-i.invariant.0.stands.within);
      closed = closed_changed _ a.loop-i.left _ _ _ _ _ _ d.row_at-own.ensures c.lower-then-units-gt0.ensures.0 refl a.loop-i.invariant.5;
    }
