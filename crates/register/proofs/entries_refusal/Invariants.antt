-- `register::entries_refusal` meets its contract. The loop's invariant: the entries from i on decide.
use Prim.Native.Nat.{◌≤◌}
use mathlib.Core.Path.{◌≡◌}
use Rattle.register.specs.Register.{entries_refusal}
use Rattle.register.proofs.Entries.{refusal_from}
use Rattle.register.proofs.entries_refusal.Given as goal

abbrev pub invariant-loop-i : goal.invariant-loop-i
invariant-loop-i l = (l.i ≤ l.n) × (refusal_from l.bytes l.n l.i ≡ entries_refusal l.bytes)
