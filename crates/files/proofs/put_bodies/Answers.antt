use Rattle.std.proofs.Common.{ℕ, ◌+◌, ◌*◌, arith, length}
use Rattle.events.specs.Layout.{BODY}
use Rattle.events.specs.Body.{body_of, Fits}
use Rattle.events.specs.Inverse.{length_body}
use Rattle.files.specs.Layout.{HEADER}
use Rattle.files.proofs.Writing.{event_written, part_written, all_more}
use Rattle.files.proofs.put_bodies.Goals as goal

pub loop-i-preserved : goal.loop-i-preserved
loop-i-preserved c =
    let events = c.args.events.now in
    let bodies : ℕ = HEADER + length events in (
      part_written body_of BODY length_body c.args.page.now c.loop-i.page c.put_body.new.page events bodies c.loop-i.i (bodies + BODY * c.loop-i.i) _ c.loop-i.invariant.0 (omega arith)
          (event_written c.loop-i.page c.put_body.new.page _ _ _ c.put_body.ensures c.fields_of.ensures.value) (omega arith),
      all_more Fits events c.loop-i.i _ (omega arith) c.loop-i.invariant.1 c.fields_of.ensures.fits,
    )
