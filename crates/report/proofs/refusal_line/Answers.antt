-- `report::refusal_line` meets its contract: the line is no longer than a page has room for.
use Rattle.report.specs.Lines.{refusal_line}
use Rattle.report.specs.Lengths.{refusal_most}
use Rattle.report.proofs.refusal_line.Goals as goal

pub put_line-requires : goal.put_line-requires
unfolding refusal_line
put_line-requires c =
    refusal_most c.args.number c.ranges.number.fits

pub returns : goal.returns
unfolding refusal_line
returns c = c.put_line.ensures
