use native.Mathlib.Omega.{arith}
use Prim.Native.Nat.{◌+◌, ◌-◌, ◌*◌, ◌≤◌}
use mathlib.Core.Path.{◌≡◌, refl, ap, ◌∙◌}
use mathlib.Core.List.{List, ◌∷◌}
use lib.ListN.{length, get_or}
use Rattle.plain.specs.declared.Piece.{Piece}
use Rattle.plain.specs.Book.{no_position}
use Rattle.tables.specs.Tables.{pieces}
use Rattle.rows.specs.Rows.{rows_of}
use Rattle.pieces.specs.Sheet.{pieces_of, no_piece, sheet_with}
use Rattle.pieces.proofs.Filled.{stays_cents}
use Rattle.tables.specs.Lent.{position_table}
use Rattle.plain.specs.Charging.{Charge}
use Rattle.ledger.specs.Tabled.{Accounted, Paired}
use Rattle.ledger.proofs.Posting.{Posting, ahead, credit_fits, next_chargeable, posting_start, posting_one, place_some, place_end}
use Rattle.ledger.proofs.Elements.{element, position_numbered}
use Rattle.ledger.specs.Settling.{payment_at, payments_at, OwedBy}
use Rattle.ledger.proofs.Settling.{changing_start, changing_at, changing_one, changing_end, priced_here, payment_here}
use Rattle.ledger.proofs.post_payments.Goals as goal
use Rattle.ledger.proofs.post_payments.Lts as lts
use Rattle.ledger.proofs.post_payments.Tie as tie
use Rattle.ledger.proofs.post_payments.Reads as reads

abbrev Start : Type 0
Start = lts.Start tie.the-claims reads.Pre reads.Post goal.the-invariant-loop-i goal.the-decreases-loop-i

abbrev In-loop-i : Type 0
In-loop-i = lts.In-loop tie.the-claims reads.Pre reads.Post goal.the-invariant-loop-i goal.the-decreases-loop-i

abbrev After-row_at-long : Type 0
After-row_at-long = lts.After-row_at tie.the-claims reads.Pre reads.Post goal.the-invariant-loop-i goal.the-decreases-loop-i

abbrev start : In-loop-i → Start
start y = y.before.before

long : (s : Start) → s.args.dealt ≤ length (pieces_of s.args.sheet.now)
long s = let f = s.requires.0.priceable.pieces_fit in omega (arith, f.places, f.held)

-- a piece that is not priced yet is one of those given
abbrev piece_at : In-loop-i → Piece
piece_at y = get_or (pieces_of y.loop-i.sheet) y.loop-i.i no_piece

same : (y : In-loop-i) → piece_at y ≡ get_or (pieces_of (start y).args.sheet.now) y.loop-i.i no_piece
same y = changing_at _ _ _ (long (start y)) _ _ no_piece y.loop-i-test.true y.loop-i.invariant.0

paired : (y : In-loop-i) → Paired (start y).args.held (piece_at y)
unfolding pieces
paired y = rw (same y) (element (Paired _) _ _ no_piece _ (long (start y)) y.loop-i-test.true (start y).requires.0.priceable.paired)

owed : (y : In-loop-i) → let a = (start y).args in OwedBy a.payer (position_table a.rows.now a.held) (piece_at y)
unfolding pieces
owed y = rw (same y) (element (OwedBy _ _) _ _ no_piece _ (long (start y)) y.loop-i-test.true (start y).requires.0.owed)

-- the charge that a piece makes
abbrev charged_of : Start → Piece → List Charge
charged_of s = payment_at s.args.price (position_table s.args.rows.now s.args.held)

-- the long of the piece
abbrev turn : After-row_at-long → In-loop-i
turn r = r.before.before.before

long_is : (r : After-row_at-long) → r.row_at-long.result ≡ get_or (rows_of (start (turn r)).args.rows.now) ((piece_at (turn r)).long - 1) no_position
long_is r = rw (← r.long_at-number.ensures) r.row_at-long.ensures

accounted : (r : After-row_at-long) → Accounted r.row_at-long.result
accounted r =
    let s = start (turn r) in
    rw (long_is r) (position_numbered (position_table s.args.rows.now s.args.held) s.requires.0.priceable.positions_fit Accounted _ (paired (turn r)).long s.requires.0.accounted)

-- the piece's payment is the next charge to be posted
posting : (r : After-row_at-long)
    → let y = turn r in
    let a = (start y).args in
    let f = payment_at a.price (position_table a.rows.now a.held) in
    Posting a.ledger.now (ahead f a.dealt (pieces_of a.sheet.now) 0)
    (record { payer = a.payer; payee = r.row_at-long.result.member; cents = r.units_at-units.result * a.price } ∷ ahead f a.dealt (pieces_of a.sheet.now) (y.loop-i.i + 1))
    y.loop-i.ledger
posting r =
    let y = turn r in
    place_some (charged_of (start y)) _ _ (long (start y)) _ _ _ no_piece _ y.loop-i-test.true
    (rw (← same y) (payment_here _ _ _ (piece_at y) _ _ (paired y) (owed y) (long_is r) r.units_at-units.ensures))
    y.loop-i.invariant.1

pub loop-i-init : goal.loop-i-init
unfolding payments_at pieces
loop-i-init c = (changing_start _ _ _, posting_start _ _ c.requires.0.room, c.requires.1, (λ s f. f))

pub overflow_sub-place : goal.overflow_sub-place
overflow_sub-place c =
    omega (arith, c.long_at-number.ensures, (paired c.before.before).long.above)

pub row_at-long-requires : goal.row_at-long-requires
row_at-long-requires c =
    omega (arith, c.long_at-number.ensures, (paired c.before.before).long.above, (paired c.before.before).long.below, (start c.before.before).requires.0.priceable.positions_fit.held)

pub overflow_mul-cents : goal.overflow_mul-cents
overflow_mul-cents c = record { fits = omega (arith, credit_fits _ _ _ (posting c).room 0) }

pub post-requires : goal.post-requires
post-requires c =
    next_chargeable _ _ _ _ _ (posting c.before.before.before) (record { payer = (start (turn c.before.before.before)).requires.0.account; payee = (accounted c.before.before.before).member })

pub loop-i-preserved : goal.loop-i-preserved
loop-i-preserved c =
    let y = turn c.before.before.before.before in (
      rw c.put_cents.ensures.pieces
          (changing_one _ _ _ (long (start y)) _ _ no_piece y.loop-i-test.true y.loop-i.invariant.0 _ (priced_here _ _ _ (piece_at y) _ _ (paired y) (owed y) (long_is c.before.before.before.before) c.units_at-units.ensures)),
      rw (c.post.ensures) (posting_one _ _ _ _ _ (posting c.before.before.before.before)),
      c.put_cents.ensures.size,
      stays_cents (start y).args.dealt _ (start y).args.dealt _ y.loop-i.invariant.3 _ _ _ y.loop-i-test.true (start y).requires.0.priceable.pieces_fit.held c.put_cents.ensures,
    )

pub returns : goal.returns
unfolding payments_at pieces
returns c =
    let i = c.loop-i.invariant in
    let f = c.requires.0.priceable.pieces_fit in
    let priced = changing_end _ _ _ (long c.before.before) _ _ c.loop-i-test.false (omega arith) i.0 in (
      record {
        priced = record { many = refl; priced = priced; fit = record { places = i.0.size ∙ f.places; held = f.held } };
        filled = λ t h. i.3 t h ∙ ap (λ (xs : List Piece). sheet_with xs t) priced;
        sheet_length = i.2;
      },
      place_end (charged_of c.before.before) _ _ (long c.before.before) _ _ _ c.loop-i-test.false i.1,
    )
