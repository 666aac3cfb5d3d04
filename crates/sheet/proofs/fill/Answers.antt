-- `sheet::fill` meets its contract.
use Rattle.std.proofs.Common.{rules, arith}
use Rattle.tables.specs.Tables.{pieces}
use Rattle.sheet.proofs.fill.Goals as goal

pub returns : goal.returns
unfolding pieces
returns c = search rules
