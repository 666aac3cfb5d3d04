use native.Mathlib.Omega.{arith}
use Prim.Native.Nat.{◌<◌}
use lib.ListN.{length, take}
use borrow.Author.Rules.{rules}
use Rattle.events.specs.declared.Event.TheVariants as event
use Rattle.files.specs.File.{events_of}
use Rattle.replay.proofs.Playing.{none_played, event_more, more_played, none_filled, more_filled}
use Rattle.replay.proofs.play.Goals as goal

pub loop-i-init : goal.loop-i-init
loop-i-init c = (none_played _ _ c.requires.held, c.requires.places, none_filled _ _)

pub step-requires : goal.step-requires
step-requires c = (c.loop-i.invariant.0.held, c.loop-i.invariant.1)

pub loop-i-preserved : goal.loop-i-preserved
loop-i-preserved c =
    let events = events_of c.args.file.now in
    let inside : c.loop-i.i < length events = omega (arith, c.requires.there) in (
      more_played _ _ events c.loop-i.i event.Close _ _ _ _ _ _ _ _ _ inside c.event_at.ensures c.loop-i.invariant.0 c.step.ensures,
      c.step.ensures.places,
      rw (event_more events c.loop-i.i event.Close _ inside c.event_at.ensures) (more_filled _ _ (take c.loop-i.i events) _ c.args.sheet.now _ _ c.loop-i.invariant.0.book c.loop-i.invariant.2 c.step.ensures.filled),
    )
