-- `register::entry_refusal` meets its contract. What the tests passed say is left to `cc`, so that no return names the tests before it.
use Rattle.register.specs.Register.{class_at}
use Rattle.register.proofs.Entries.{reason_2, reason_3, reason_4, no_reason}
use Rattle.std.proofs.Common.{sym}
use Rattle.register.proofs.entry_refusal.Goals as goal

pub returns-then-not-class : goal.returns-then-not-class
unfolding class_at
returns-then-not-class c = sym (reason_2 c.args.bytes.now c.args.i (cc))

pub returns-then-not-checked : goal.returns-then-not-checked
unfolding class_at
returns-then-not-checked c = sym (reason_3 c.args.bytes.now c.args.i (cc) (cc))

pub returns-then-stands_earlier : goal.returns-then-stands_earlier
unfolding class_at
returns-then-stands_earlier c = sym (reason_4 c.args.bytes.now c.args.i (cc) (cc) (cc))

pub returns : goal.returns
unfolding class_at
returns c = sym (no_reason c.args.bytes.now c.args.i (cc) (cc) (cc))
