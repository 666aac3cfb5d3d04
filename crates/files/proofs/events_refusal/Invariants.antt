-- `files::events_refusal` meets its contract. The loop's invariant: the events passed have no reason to refuse, so those that are left decide.
use Prim.Native.Nat.{◌≤◌}
use mathlib.Core.Path.{◌≡◌}
use Rattle.laws.specs.Refusals.{first}
use Rattle.files.specs.File.{kinds_in, bodies_in, checks}
use Rattle.files.proofs.Checking.{left}
use Rattle.files.proofs.events_refusal.Given as goal

abbrev pub invariant-loop-i : goal.invariant-loop-i
invariant-loop-i l =
    (l.i ≤ l.count) × (first (checks (kinds_in l.file l.count) (bodies_in l.file l.count)) ≡ first (left l.file l.count l.i))
