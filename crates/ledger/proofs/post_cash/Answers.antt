-- `ledger::post_cash` meets its contract.
use native.Mathlib.Omega.{arith}
use Prim.Native.Nat.{◌*◌}
use mathlib.Core.Path.{◌≡◌, sym, ◌∙◌}
use Rattle.rules.specs.Charges.{cash_fee}
use Rattle.rules.specs.Charged.{by_highest_long}
use Rattle.tables.specs.Lent.{position_table, piece_table}
use Rattle.ledger.specs.Settling.{highest_long, price_of}
use Rattle.ledger.proofs.Posts.{posted_append, room_first, room_then}
use Rattle.ledger.proofs.post_cash.Goals as goal
use Rattle.ledger.proofs.post_cash.Lts as lts
use Rattle.ledger.proofs.post_cash.Tie as tie
use Rattle.ledger.proofs.post_cash.Reads as reads

abbrev After-cash_price-price : Type 0
After-cash_price-price = lts.After-cash_price tie.the-claims reads.Pre reads.Post

abbrev After-cash_fee-fee : Type 0
After-cash_fee-fee = lts.After-cash_fee tie.the-claims reads.Pre reads.Post

price_is : (x : After-cash_price-price)
    → let a = x.args in x.cash_price-price.result ≡ price_of a.class a.latest a.short (position_table a.rows.now a.held) (piece_table a.sheet.now a.dealt)
unfolding price_of highest_long
price_is x =
    rw x.highest_reference-long.ensures at x.cash_price-price.ensures
    ∙ sym (by_highest_long _ _ _ _)

fee_is : (x : After-cash_fee-fee) → let a = x.args in x.cash_fee-fee.result ≡ cash_fee (a.short.unsettled * a.latest)
fee_is x = rw (← x.value_of.ensures) x.cash_fee-fee.ensures

pub post_payments-requires : goal.post_payments-requires
post_payments-requires c =
    let h = c.requires in
    (record { room = rw (price_is c.before.before) (room_first _ _ _ h.0.room); priceable = h.0.priceable; accounted = h.0.accounted; owed = h.0.owed; account = h.0.account }, h.1)

pub post-requires : goal.post-requires
post-requires c =
    let h = c.requires.0 in
    record {
      booked = record { payer = h.account; payee = omega arith };
      room = rw (c.post_payments.ensures.1, price_is c.before.before.before.before.before.before, fee_is c.before) (room_then _ _ _ h.room);
    }

pub returns : goal.returns
returns c =
    let g = c.post_payments.ensures in
    (rw (price_is c.before.before.before.before.before.before.before) at g.0, (rw (g.1, price_is c.before.before.before.before.before.before.before, fee_is c.before.before) at c.post.ensures) ∙ posted_append _ _ _)
