use native.Mathlib.Omega.{arith}
use mathlib.Core.Path.{◌∙◌}
use Rattle.files.specs.File.{events_of}
use Rattle.files.proofs.Places.{stored_event, all_events}
use Rattle.files.proofs.read_events.Goals as goal

pub loop-i-preserved : goal.loop-i-preserved
loop-i-preserved c = (
  omega arith,
  stored_event (events_of c.args.file.now) c.loop-i.events c.event_at-event.result c.loop-i.i c.loop-i.invariant.1 c.event_at-event.ensures (omega (arith)),
)

pub returns : goal.returns
returns c =
    c.loop-i.invariant.1
    ∙ all_events c.args.file.now c.loop-i.i (omega (arith))
