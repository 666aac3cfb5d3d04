-- `files::put_kinds` meets its contract. The loop's invariant: the kind bytes of the first i events are written.
use lib.ListN.{take}
use mathlib.Core.Path.{◌≡◌}
use lib.Seq.{sets}
use Rattle.laws.specs.Lists.{each}
use Rattle.files.specs.Layout.{HEADER}
use Rattle.files.proofs.Writing.{kind_byte}
use Rattle.files.proofs.put_kinds.Given as goal

abbrev pub invariant-loop-i : goal.invariant-loop-i
invariant-loop-i l =
    (l.page ≡ sets l.initial.page HEADER (each kind_byte (take l.i l.events)))
