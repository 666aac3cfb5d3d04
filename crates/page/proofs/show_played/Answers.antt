-- `page::show_played` meets its contract.
use native.Mathlib.Omega.{arith}
use mathlib.Core.Path.{ap₂, ◌∙◌, subst}
use mathlib.Core.List.{List}
use lib.Seq.{take_all}
use Rattle.events.specs.declared.Event.{Event}
use Rattle.files.specs.File.{events_of}
use Rattle.plain.specs.Book as plain
use Rattle.plain.specs.Histories.{run, calls_of}
use Rattle.page.specs.Answer.{Shown}
use Rattle.page.proofs.show_played.Goals as goal

pub play-after-requires-clause-held : goal.play-after-requires-clause-held
play-after-requires-clause-held c = c.requires _ c.new_numbers-lent.ensures.blank

pub play-after-requires-clause-places : goal.play-after-requires-clause-places
play-after-requires-clause-places c = c.blank_numbers-sheet.ensures.1

pub play-after-requires-clause-there : goal.play-after-requires-clause-there
play-after-requires-clause-there c = omega (arith, c.events_in-count.ensures)

pub show_positions-requires : goal.show_positions-requires
show_positions-requires c = (c.play-after.new.lent, c.play-after.ensures.played.held)

pub returns : goal.returns
returns c =
    let all = take_all c.events_in-count.result (events_of c.args.file.now) (omega (arith, c.events_in-count.ensures)) in
    λ b opens.
    let same = c.play-after.ensures.played.book ∙ ap₂ (λ (x : plain.Book) (es : List Event). run x (calls_of es)) (opens _ c.new_numbers-lent.ensures.blank) all in
    subst (λ (x : plain.Book). Shown x c.args.page.now c.show_positions.new.page c.show_positions.result) same (c.show_positions.ensures c.play-after.new.lent)
