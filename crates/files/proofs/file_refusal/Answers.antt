-- `files::file_refusal` meets its contract. Count, width and length are tested in turn, then the events.
use mathlib.Core.Path.{sym, ◌∙◌}
use Rattle.files.proofs.Checking.{too_many, other_width, other_length, right_header}
use Rattle.files.proofs.file_refusal.Goals as goal

pub returns-then-count-gt-EVENTS : goal.returns-then-count-gt-EVENTS
returns-then-count-gt-EVENTS c = too_many c.args.file.now _ c.event_count-count.ensures c.if-count-gt-EVENTS.true

pub returns-then-width-ne-WIDTH : goal.returns-then-width-ne-WIDTH
returns-then-width-ne-WIDTH c = other_width c.args.file.now _ c.event_count-count.ensures c.if-count-gt-EVENTS.false (λ w. c.if-width-ne-WIDTH.true (c.word16_at-width.ensures ∙ w))

pub returns-then-file-count : goal.returns-then-file-count
returns-then-file-count c = other_length c.args.file.now _ c.event_count-count.ensures c.if-count-gt-EVENTS.false (sym c.word16_at-width.ensures ∙ c.if-width-ne-WIDTH.false) c.if-file-count.true

pub returns : goal.returns
returns c = right_header c.args.file.now _ c.event_count-count.ensures c.if-count-gt-EVENTS.false (sym c.word16_at-width.ensures ∙ c.if-width-ne-WIDTH.false) _ c.if-file-count.false c.events_refusal.ensures
