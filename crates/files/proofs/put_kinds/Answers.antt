use Rattle.std.proofs.Common.{ℕ, ◌+◌, refl, ap, arith, set}
use Rattle.files.specs.Layout.{HEADER}
use Rattle.files.proofs.Writing.{kind_byte, part_written}
use Rattle.files.proofs.put_kinds.Goals as goal

pub loop-i-preserved : goal.loop-i-preserved
loop-i-preserved c =
    part_written kind_byte 1 (λ e. refl) c.args.page.now c.loop-i.page (set c.loop-i.page (HEADER + c.loop-i.i) c.kind_of.result) c.args.events.now HEADER c.loop-i.i (HEADER + c.loop-i.i) _ c.loop-i.invariant (omega arith)
    (ap (λ (k : ℕ). set c.loop-i.page (HEADER + c.loop-i.i) k) c.kind_of.ensures) (omega arith)
