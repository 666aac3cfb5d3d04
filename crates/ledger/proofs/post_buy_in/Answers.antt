use mathlib.Core.Path.{◌≡◌}
use Rattle.plain.specs.Charging.{charge}
use Rattle.rules.specs.Charges.{buy_in_charge}
use Rattle.ledger.proofs.Posting.{charge_debit, charge_credit}
use Rattle.ledger.proofs.post_buy_in.Goals as goal
use Rattle.ledger.proofs.post_buy_in.Lts as lts
use Rattle.ledger.proofs.post_buy_in.Tie as tie
use Rattle.ledger.proofs.post_buy_in.Reads as reads

abbrev In-Debit : Type 0
In-Debit = lts.Past-After-known_told tie.the-claims reads.Pre reads.Post

abbrev In-Credit : Type 0
In-Credit = lts.Past-After-known_told2 tie.the-claims reads.Pre reads.Post

debit : (c : In-Debit)
    → charge c.args.member (buy_in_charge c.args.quantity c.args.price c.args.reference)
    ≡ record { payer = c.args.member; payee = 0; cents = c.in-Debit.cents }
debit c = charge_debit _ _ _ _ c.buy_in_charge-amount.ensures c.in-Debit.is

credit : (c : In-Credit)
    → charge c.args.member (buy_in_charge c.args.quantity c.args.price c.args.reference)
    ≡ record { payer = 0; payee = c.args.member; cents = c.in-Credit.cents }
credit c = charge_credit _ _ _ _ c.buy_in_charge-amount.ensures c.in-Credit.is

pub post-requires : goal.post-requires
post-requires c = rw (debit c.before) at c.requires

pub post-requires-in-Credit : goal.post-requires-in-Credit
post-requires-in-Credit c = rw (credit c.before) at c.requires

pub returns-in-Debit : goal.returns-in-Debit
returns-in-Debit c = rw (debit c.before.before) c.post.ensures

pub returns-in-Credit : goal.returns-in-Credit
returns-in-Credit c = rw (credit c.before.before) c.post-in-Credit.ensures
