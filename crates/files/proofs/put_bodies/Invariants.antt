-- `files::put_bodies` meets its contract. The loop's invariant: the bodies of the first i events are written, and these events fit
-- their fields, as the numbers that a machine holds do.
use mathlib.Core.Path.{◌≡◌}
use lib.ListN.{take}
use lib.Seq.{sets}
use Rattle.laws.specs.Lists.{All, each}
use Rattle.events.specs.Body.{body_of, Fits}
use Rattle.files.proofs.put_bodies.Given as goal

abbrev pub invariant-loop-i : goal.invariant-loop-i
invariant-loop-i l =
    (l.page ≡ sets l.initial.page l.bodies (each body_of (take l.i l.events))) × All Fits (take l.i l.events)
