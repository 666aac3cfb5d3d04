-- `reading::balance` meets its contract.
use mathlib.Core.Path.{ap, sym}
use Rattle.std.proofs.Common.{Ok}
use borrow.Author.Tests.{lt-ltb, le-ltb}
use Rattle.kept.specs.View.{view}
use Rattle.reading.proofs.Found.{credit_is, debit_is}
use Rattle.reading.proofs.balance.Goals as goal

pub returns-then-account-gt-MEMBERS : goal.returns-then-account-gt-MEMBERS
returns-then-account-gt-MEMBERS c = λ core others. rw (lt-ltb 63 c.args.account c.if-account-gt-MEMBERS.true)

pub returns-then-credit-debit : goal.returns-then-credit-debit
unfolding view Rattle.plain.specs.Histories.balance
returns-then-credit-debit c =
    λ core others. rw (le-ltb 63 c.args.account c.if-account-gt-MEMBERS.false) (ap Ok (sym (debit_is _ _ c.if-credit-debit.true)))

pub returns : goal.returns
unfolding view Rattle.plain.specs.Histories.balance
returns c =
    λ core others. rw (le-ltb 63 c.args.account c.if-account-gt-MEMBERS.false) (ap Ok (sym (credit_is _ _ c.if-credit-debit.false)))
