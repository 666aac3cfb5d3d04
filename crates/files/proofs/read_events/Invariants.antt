-- `files::read_events` meets its contract. The loop's invariant: the array holds the first i events, and closes after them.
use Prim.Native.Nat.{◌≤◌}
use mathlib.Core.Path.{◌≡◌}
use lib.ListN.{take}
use Rattle.laws.specs.Limits.{EVENTS}
use Rattle.laws.specs.Parts.{padded}
use Rattle.events.specs.declared.Event.{Event}
use Rattle.files.specs.File.{events_of}
use Rattle.files.proofs.read_events.Given as goal

abbrev pub invariant-loop-i : goal.invariant-loop-i
invariant-loop-i l =
    (l.i ≤ l.stop) × (l.events ≡ padded Event.Close EVENTS (take l.i (events_of l.file)))
