-- `report::piece_line` meets its contract: the line is no longer than a page has room for.
use native.Mathlib.Omega.{arith}
use Rattle.report.specs.Lines.{piece_line}
use Rattle.report.specs.Lengths.{piece_most}
use Rattle.report.proofs.piece_line.Goals as goal

pub put_line-requires : goal.put_line-requires
unfolding piece_line
put_line-requires c =
    piece_most c.args.piece (omega arith) (omega arith) (omega arith) (omega arith)

pub returns : goal.returns
unfolding piece_line
returns c = c.put_line.ensures
