-- `report::event_line` meets its contract: the line is no longer than a page has room for.
use Rattle.report.specs.Lines.{event_line}
use Rattle.report.specs.Lengths.{event_most}
use Rattle.report.proofs.event_line.Goals as goal

pub put_line-requires : goal.put_line-requires
unfolding event_line
put_line-requires c =
    event_most c.args.number c.args.refusal c.args.quantity c.ranges.number.fits c.ranges.refusal.fits c.ranges.quantity.fits

pub returns : goal.returns
unfolding event_line
returns c = c.put_line.ensures
