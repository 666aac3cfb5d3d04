-- `failing::discharged` meets its contract: the counts stay where units are left open or the short is not late, else one falls.
use native.Mathlib.Omega.{arith}
use Rattle.failing.proofs.Counting.{counted_same}
use Rattle.failing.proofs.Discharging.{counts_one, still_open, not_yet_late, one_less}
use Rattle.failing.proofs.discharged.Goals as goal

pub returns-then-quantity-p : goal.returns-then-quantity-p
returns-then-quantity-p c =
    (λ ps qs n h u low. counted_same _ _ ps qs _ _ h (still_open _ ps n _ _ u qs low (omega (arith, c.if-quantity-p.true))), c.requires.0.2.places)

pub returns-then-day-p : goal.returns-then-day-p
returns-then-day-p c =
    (λ ps qs n h u low. counted_same _ _ ps qs _ _ h (not_yet_late _ ps n _ _ u qs low (omega (arith, c.if-day-p.true))), c.requires.0.2.places)

pub without_late_short-requires : goal.without_late_short-requires
without_late_short-requires c =
    let pre = c.requires in
    let h = pre.0.2 in
    let u = pre.0.3 in (
      record { securities = h.securities; places = h.places; within = pre.1; below = pre.2 },
      rw (h.counted _ _ pre.1 pre.2) (counts_one _ _ _ _ _ u (omega (arith, u.enough, c.if-quantity-p.false)) (omega (arith, c.if-day-p.false))),
    )

pub returns : goal.returns
returns c = (
  λ ps qs n h u low. c.without_late_short.ensures.0 _ ps qs h (one_less _ ps n _ _ u qs low (omega (arith, u.enough, c.if-quantity-p.false)) (omega (arith, c.if-day-p.false))),
  c.without_late_short.ensures.1,
)
