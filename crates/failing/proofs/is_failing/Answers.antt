-- `failing::is_failing` meets its contract: past the word's width there is no bit.
use Prim.Native.Nat.{◌<◌}
use mathlib.Core.Path.{refl, sym}
use borrow.Author.Tests.{lt-leb}
use native.Mathlib.Omega.{arith}
use Rattle.failing.specs.Members.{bit}
use Rattle.failing.proofs.Bits.{bit_past}
use Rattle.failing.proofs.is_failing.Goals as goal

pub returns-then-member-le-MEMBERS : goal.returns-then-member-le-MEMBERS
unfolding bit
returns-then-member-le-MEMBERS c = refl

pub returns-else-member-le-MEMBERS : goal.returns-else-member-le-MEMBERS
returns-else-member-le-MEMBERS c =
    let beyond : 63 < c.args.member = omega arith in
    rw (lt-leb _ _ beyond) (sym (bit_past c.args.word c.args.member c.ranges.word.fits (omega arith)))
