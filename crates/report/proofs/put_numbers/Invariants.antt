-- `report::put_numbers` meets its contract. The invariant: the fields of the numbers passed are put.
use Rattle.std.proofs.Common.{take}
use Rattle.report.specs.Lines.{numbers}
use Rattle.report.specs.Pages.{Put}
use Rattle.report.proofs.put_numbers.Given as goal

abbrev pub invariant-loop-n : goal.invariant-loop-n
invariant-loop-n l = Put (numbers (take l.n-index l.list)) l.initial.page l.page l.at
