-- `failing::without_member` meets its contract: the bits of a word and a power of two, where they differ.
use native.Mathlib.Omega.{arith}
use Rattle.failing.proofs.Turning.{with_power_turned}
use Rattle.failing.proofs.without_member.Goals as goal

pub returns : goal.returns
returns c = with_power_turned c.args.word c.args.member c.ranges.word.fits (omega arith)
