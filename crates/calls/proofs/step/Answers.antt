-- `calls::step` meets its contract. Each arm answers by the call of its kind; one without a sheet leaves the sheet as it is.
use mathlib.Core.Path.{refl}
use borrow.Author.Rules.{rules}
use Rattle.calls.proofs.Stepping.{bare_on}
use Rattle.calls.proofs.step.Goals as goal

pub attempt-requires : goal.attempt-requires
attempt-requires c = (c.args.lent.now, c.requires.0)

pub offer-requires : goal.offer-requires
offer-requires c = (c.args.lent.now, c.requires.0)

pub award-requires : goal.award-requires
award-requires c = (c.args.lent.now, c.requires.0)

pub returns-in-Trade : goal.returns-in-Trade
returns-in-Trade c = rw c.in-Trade.is (bare_on _ _ _ _ _ _ _ _ refl c.requires.1 (c.trade.ensures c.args.lent.now c.requires.0))

pub returns-in-Price : goal.returns-in-Price
returns-in-Price c = rw c.in-Price.is (bare_on _ _ _ _ _ _ _ _ refl c.requires.1 (c.price.ensures _ c.requires.0))

pub returns-in-Delivery : goal.returns-in-Delivery
returns-in-Delivery c = rw c.in-Delivery.is c.delivery.ensures.called

pub returns-in-Attempt : goal.returns-in-Attempt
returns-in-Attempt c = rw c.in-Attempt.is (bare_on _ _ _ _ _ _ _ _ refl c.requires.1 (c.attempt.ensures c.args.lent.now c.requires.0))

pub returns-in-Offer : goal.returns-in-Offer
returns-in-Offer c = rw c.in-Offer.is (bare_on _ _ _ _ _ _ _ _ refl c.requires.1 (c.offer.ensures c.args.lent.now c.requires.0))

pub returns-in-Award : goal.returns-in-Award
returns-in-Award c = rw c.in-Award.is (bare_on _ _ _ _ _ _ _ _ refl c.requires.1 (c.award.ensures c.args.lent.now c.requires.0))

pub returns-in-Confirm : goal.returns-in-Confirm
returns-in-Confirm c = rw c.in-Confirm.is c.confirm.ensures.called

pub returns-in-Cash : goal.returns-in-Cash
returns-in-Cash c = rw c.in-Cash.is c.cash.ensures.called

pub returns-in-Close : goal.returns-in-Close
returns-in-Close c = rw c.in-Close.is (bare_on _ _ _ _ _ _ _ _ refl c.requires.1 (c.close.ensures.called))

pub returns-in-PairOff : goal.returns-in-PairOff
returns-in-PairOff c = rw c.in-PairOff.is c.pair_off.ensures.called
