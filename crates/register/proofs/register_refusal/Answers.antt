-- `register::register_refusal` meets its contract.
use Rattle.std.proofs.Common.{arith, sym, ◌∙◌}
use Rattle.register.specs.Accepted.{sized, refusal_sized, refusal_unsized}
use Rattle.register.proofs.register_refusal.Goals as goal

pub returns-then-not-has_right_size : goal.returns-then-not-has_right_size
returns-then-not-has_right_size c = sym (refusal_unsized c.args.bytes.now (cc))

pub count-requires : goal.count-requires
count-requires c =
    let s = sized c.args.bytes.now (cc) in
    omega (arith, s.long)

pub entries_refusal-requires : goal.entries_refusal-requires
entries_refusal-requires c = rw c.count.ensures (sized c.args.bytes.now (cc))

pub returns : goal.returns
returns c = c.entries_refusal.ensures ∙ sym (refusal_sized c.args.bytes.now (cc))
