use native.Mathlib.Omega.{arith}
use Prim.Native.Nat.{ℕ, ◌+◌, ◌<◌}
use mathlib.Core.Path.{◌≡◌, ap, ◌∙◌}
use mathlib.Core.Logic.{⊎_elim}
use mathlib.Core.List.{List, ◌++◌}
use lib.ListN.{length, get_or}
use Rattle.plain.specs.declared.Position.{Position}
use Rattle.plain.specs.Invariants.{KeyFits}
use Rattle.plain.specs.Netting.{Key}
use Rattle.netting.specs.declared.Total.{Total}
use Rattle.rows.proofs.Cells.{length_rows}
use Rattle.netting.specs.Gathering.{no_total, key_for}
use Rattle.netting.specs.Members.{net_from}
use Rattle.rows.specs.Rows.{rows_of}
use Rattle.netting.proofs.Filling.{Filling, next_place, filling_more}
use Rattle.netting.proofs.Made.{net_none}
use Rattle.netting.proofs.Appending.{each_from, run_table, run_start, run_appended, of_security, security_next}
use Rattle.netting.proofs.net_kind.Goals as goal
use Rattle.netting.proofs.net_kind.Lts as lts
use Rattle.netting.proofs.net_kind.Tie as tie
use Rattle.netting.proofs.net_kind.Reads as reads

abbrev In-loop-security : Type 0
In-loop-security = lts.In-loop tie.the-claims reads.Pre reads.Post goal.the-invariant-loop-security goal.the-decreases-loop-security tie.handed_clauses

abbrev After-sold : Type 0
After-sold = lts.After-sold tie.the-claims reads.Pre reads.Post goal.the-invariant-loop-security goal.the-decreases-loop-security tie.handed_clauses

abbrev After-position_of-position : Type 0
After-position_of-position = lts.After-position_of tie.the-claims reads.Pre reads.Post goal.the-invariant-loop-security goal.the-decreases-loop-security tie.handed_clauses

-- the key of the security that is reached has its totals in the table
fits : (y : In-loop-security) → KeyFits 32 (key_for y.args.member y.args.kind y.loop-security.security)
fits y =
    let s = y.requires.0 in
    record { member = s.member_fits; security = record { above = y.loop-security.invariant.1; below = omega (arith, y.loop-security-test.true, s.securities_fit) } }

-- what its totals make is next
module _ (x : After-sold) where
  abbrev key : Key
  key = key_for x.args.member x.args.kind x.loop-security.security

  next : (ps : List Position) → (let a = x.args in net_from a.day.0 key (get_or a.totals.now x.place_of.result no_total) (get_or a.totals.now x.place_of-in-loop-security.result no_total) ≡ ps
      → Filling (run_table (of_security a.day.0 a.totals.now a.member a.kind a.securities) a.securities a.rows.now a.held) (ps ++ each_from (of_security a.day.0 a.totals.now a.member a.kind a.securities) a.securities (x.loop-security.security + 1)) x.loop-security.n (rows_of x.loop-security.rows))
  next ps e =
      let a = x.args in
      let total : ℕ → Total = λ n. get_or a.totals.now n no_total in
      security_next a.day.0 a.totals.now a.member a.kind a.securities x.loop-security.security (omega (arith, x.loop-security-test.true)) _ _
      (ap total x.place_of.ensures.place) (ap total x.place_of-in-loop-security.ensures.place) ps e _ _ _ x.loop-security.invariant.0

placed : (c : After-position_of-position) → c.loop-security.n < 1024
placed c =
    omega (arith, length_rows c.loop-security.rows, next_place _ _ _ _ _ (next c.before.before.before.before _ c.position_of-position.ensures))

pub loop-security-init : goal.loop-security-init
loop-security-init c = (run_start _ _ _ _ c.requires.0.room, omega arith, c.requires.1)

pub put_row-requires : goal.put_row-requires
put_row-requires c = (c.loop-security.invariant.2, placed c.before)

pub overflow_add-n : goal.overflow_add-n
overflow_add-n c = omega (arith, placed c.before.before)

pub loop-security-preserved : goal.loop-security-preserved
loop-security-preserved c = (
  ⊎_elim
      (λ w. rw (ap rows_of w.rows-is ∙ w.put_row.ensures.0, w.n-is) (filling_more _ _ _ _ _ (next c.before.before.before _ w.position_of-position.ensures)))
      (λ w. rw (w.rows-is, w.n-is) (next c.before.before.before _ (net_none _ _ _ _ w.if-bought-sold.false)))
      c.if-bought-sold.branch-raw,
  omega arith,
  ⊎_elim (λ w. ap length w.rows-is ∙ w.put_row.ensures.1) (λ w. ap length w.rows-is ∙ c.loop-security.invariant.2) c.if-bought-sold.branch-raw,
)

pub returns : goal.returns
returns c =
    let i = c.loop-security.invariant in
    let past : c.args.securities < c.loop-security.security = omega (arith, c.loop-security-test.false) in
    (run_appended _ _ _ _ _ past _ _ i.0, i.2)
