-- `probe::before_last` meets its contract.
use Prim.Native.Nat.{ℕ}
use native.Mathlib.Omega.{arith}
use mathlib.Core.Path.{ap, ap₂, ◌∙◌}
use lib.ListN.{take}
use borrow.Author.Rules.{rules}
use Rattle.files.specs.File.{events_of}
use Rattle.plain.specs.Book as plain
use Rattle.plain.specs.Histories.{run, calls_of}
use Rattle.probe.specs.Last.{after_closes}
use Rattle.probe.proofs.before_last.Goals as goal

pub closed-later-requires : goal.closed-later-requires
closed-later-requires c = c.requires _ c.new_numbers-lent.ensures.blank

pub play-after-requires-clause-held : goal.play-after-requires-clause-held
play-after-requires-clause-held c = c.closed-later.ensures.held

pub play-after-requires-clause-places : goal.play-after-requires-clause-places
play-after-requires-clause-places c = c.blank_numbers-sheet.ensures.1

pub play-after-requires-clause-there : goal.play-after-requires-clause-there
play-after-requires-clause-there c = omega (arith, c.count_before_last-stop.ensures)

pub made_of-requires : goal.made_of-requires
made_of-requires c = c.play-after.ensures.played.held
