-- `machine::class_of` meets its contract: number n stands at place n - 1.
use Prim.Native.Nat.{ℕ}
use mathlib.Core.Path.{sym}
use borrow.Author.Rules.{rules}
use Rattle.plain.proofs.Numbered.{nth_at}
use Rattle.machine.proofs.class_of.Goals as goal

pub returns : goal.returns
returns c = sym (nth_at {A = ℕ} 0 c.args.opening.register.classes _ c.requires.1)
