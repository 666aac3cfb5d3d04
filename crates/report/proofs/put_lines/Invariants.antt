-- `report::put_lines` meets its contract. The invariant: the lines before this one are put, in at most 80 bytes each.
use Rattle.std.proofs.Common.{◌*◌, ◌≤◌}
use Rattle.laws.specs.Lists.{each, range}
use Rattle.report.specs.Lines.{LINE}
use Rattle.report.specs.Pages.{Put}
use Rattle.report.proofs.put_lines.Given as goal

abbrev pub invariant-loop-i : goal.invariant-loop-i
invariant-loop-i g l = (l.at ≤ LINE * l.i) × Put (each g.text (range 0 l.i)) l.initial.page l.page l.at
