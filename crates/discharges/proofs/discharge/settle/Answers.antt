-- `discharges::discharge::settle` meets its contract.
use Rattle.discharges.proofs.Settling.{settling, settleable, cash_done}
use Rattle.discharges.proofs.discharge.settle.Goals as goal

pub discharge-made-requires : goal.discharge-made-requires
discharge-made-requires c = settling _ _ _ c.requires.0 _ _ _ c.requires.1 _ c.requires.2

pub post_cash-requires : goal.post_cash-requires
post_cash-requires c =
    (settleable _ _ _ c.requires.0 _ _ _ c.requires.1 _ _ _ _ c.discharge-made.ensures.kept c.discharge-made.ensures.dealt, c.discharge-made.ensures.dealt.sheet_length)

pub returns-clause-called : goal.returns-clause-called
returns-clause-called c =
    rw c.done.ensures
    (cash_done _ _ _ c.requires.0 _ _ _ c.requires.1 _ _ _ _ c.discharge-made.ensures.kept c.discharge-made.ensures.dealt _ _ c.post_cash.ensures.0 c.post_cash.ensures.1)
