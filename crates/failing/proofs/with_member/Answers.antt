-- `failing::with_member` meets its contract: the bits of a word with a power of two.
use native.Mathlib.Omega.{arith}
use Rattle.failing.proofs.Bits.{with_power}
use Rattle.failing.proofs.with_member.Goals as goal

pub returns : goal.returns
returns c = with_power c.args.word c.args.member c.ranges.word.fits (omega arith)
