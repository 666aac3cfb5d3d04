-- Document 01, 'Day windows': the step allowed on a day, by the security's class and r, which is today minus the delivery day S.
use Rattle.std.specs.Prelude.{ℕ, ◌-◌, ◌%◌, cond, ◌&&◌, leb, eqb}
use Rattle.rules.specs.declared.Step.{Step}
use Rattle.rules.specs.declared.Step.TheVariants.{Nothing, Attempt, Cash}
use Rattle.rules.specs.Classes.{by_class}

-- "Class 1: attempt at r 5 to 7 .., cash at r 8 or more"
unfoldable pub share_step : ℕ → Step
share_step r = cond (leb 5 r && leb r 7) Attempt (cond (leb 8 r) Cash Nothing)

-- "Classes 2 and 3: with k = 0, 1, 2 .., attempt at r = 27 + 10k, cash at r = 30 + 10k to 36 + 10k."
unfoldable pub recurring_step : ℕ → Step
recurring_step r =
    cond (leb 27 r && eqb ((r - 27) % 10) 0) Attempt (cond (leb 30 r && leb ((r - 30) % 10) 6) Cash Nothing)

-- the step that a day allows besides delivery; a number that is no class allows none
unfoldable pub step_on : ℕ → ℕ → Step
step_on class r = by_class class (share_step r) (recurring_step r) (recurring_step r) Nothing

-- the kind of the event that a step is in document 01, 'Event files and the player': 4 attempt, 8 cash; 0 is none
abbrev pub step_kind : Step → ℕ
step_kind Nothing = 0
step_kind Attempt = 4
step_kind Cash = 8
