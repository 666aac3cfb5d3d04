-- The layout of an event file: how long its parts are.
-- Document 01, 'Event files and the player'. The code's constants have the same names.
use Rattle.std.specs.Prelude.{ℕ, ◌+◌}
use Rattle.events.specs.Layout.{BODY}

-- "A file is a count (u16, at most 2,048), body width (u16, 16), an array of kind bytes, then an array of bodies."
abbrev pub COUNT_AT : ℕ
COUNT_AT = 0

abbrev pub WIDTH_AT : ℕ
WIDTH_AT = 2

-- the bytes before the kind bytes
abbrev pub HEADER : ℕ
HEADER = 4

-- the bytes of an event: its kind byte and its body
abbrev pub EVENT_BYTES : ℕ
EVENT_BYTES = 1 + BODY
