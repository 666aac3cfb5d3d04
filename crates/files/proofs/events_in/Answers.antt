-- `files::events_in` meets its contract. The number of events is the count, and no more than the bytes after the first four.
use Rattle.std.proofs.Common.{arith}
use Rattle.files.specs.Passing.{length_events}
use Rattle.files.proofs.events_in.Goals as goal

pub returns : goal.returns
returns c = omega (arith, length_events c.args.file.now)
