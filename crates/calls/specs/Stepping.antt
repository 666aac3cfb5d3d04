-- One event, by the call of its kind, on the lent tables and a sheet of 1,024 places.
use Rattle.std.specs.Prelude.{ℕ, List}
use Rattle.laws.specs.Limits.{PLACES}
use Rattle.events.specs.declared.Event.{Event}
use Rattle.laws.specs.Answers.{Outcome}
use Rattle.plain.specs.Calls.{call}
use Rattle.machine.specs.declared.Core.{Core}
use Rattle.machine.specs.declared.Numbers.{Numbers}
use Rattle.machine.specs.View.{CalledOn}

-- what the event makes of the core, the numbers and the sheet, and what it answers: its call on a sheet of 1,024 places
abbrev pub Stepped : Core → Numbers → Event → List ℕ → Core → Numbers → List ℕ → Outcome → ℕ → Type 0
Stepped b a e sheet after z left o n = CalledOn b a (call e PLACES) sheet after z left o n
