use native.Mathlib.Omega.{arith}
use Prim.Native.Nat.{ℕ, ◌+◌, ◌≤◌}
use mathlib.Core.Path.{ap, ◌∙◌}
use mathlib.Core.List.{List, ◌++◌}
use lib.ListN.{length}
use Rattle.std.specs.Prelude.{Option}
use Rattle.std.specs.Option.{option_copied}
use Rattle.plain.specs.declared.Kind.TheVariants.{Own}
use Rattle.plain.specs.declared.Position.{Position}
use Rattle.netting.specs.declared.Total.{Total}
use Rattle.netting.specs.Members.{kind_positions, client_positions, member_positions, Appended}
use Rattle.rows.specs.Rows.{rows_of}
use Rattle.tables.specs.Lent.{position_table}
use Rattle.netting.proofs.Filling.{Filling}
use Rattle.netting.proofs.Appending.{each_from, run_start, run_next, run_appended, part_room, part_more, two_parts}
use Rattle.netting.proofs.net_members.Goals as goal
use Rattle.netting.proofs.net_members.Goals.{in-Some, in_default}

module _ (day : ℕ) (own : List Total) (clients : Option (List Total)) (securities member : ℕ) where
  -- what each member's business makes
  abbrev made : ℕ → List Position
  made = member_positions day own clients securities

  abbrev rest : List Position
  rest = each_from made 63 (member + 1)

  abbrev owns : List Position
  owns = kind_positions day own securities member Own

  abbrev theirs : List Position
  theirs = client_positions day clients securities member

  module _ (h : member ≤ 63) (whole : List Position) (n : ℕ) (rows : List ℕ) (f : Filling whole (each_from made 63 member) n (rows_of rows)) where
    -- its own comes next, and then its clients'
    own_next : Filling whole (owns ++ (theirs ++ rest)) n (rows_of rows)
    own_next = two_parts whole owns theirs rest n (rows_of rows) (run_next made 63 member h whole n (rows_of rows) f)

    own_room : n + length owns ≤ 1024
    own_room = part_room whole owns (theirs ++ rest) n rows own_next

    client_next : (after : List ℕ) (r : ℕ) → Appended (position_table rows n) owns (position_table after r) → Filling whole (theirs ++ rest) r (rows_of after)
    client_next after r a = part_more whole owns (theirs ++ rest) n rows own_next after r a

    client_room : (after : List ℕ) (r : ℕ) → Appended (position_table rows n) owns (position_table after r) → r + length theirs ≤ 1024
    client_room after r a = part_room whole theirs rest r after (client_next after r a)

pub loop-member-init : goal.loop-member-init
loop-member-init c = (run_start _ _ _ _ c.requires.0.room, omega arith, c.requires.1)

pub net_kind-n-requires : goal.net_kind-n-requires
net_kind-n-requires c =
    let a = c.args in
    let i = c.loop-member.invariant in
    let d = c.requires.0 in (
      record {
        member_fits = record { above = i.1; below = c.loop-member-test.true };
        securities_fit = d.securities_fit;
        dated = d.dated;
        room = own_room a.day.0 a.own.now (option_copied a.clients) a.securities _ c.loop-member-test.true _ _ _ i.0;
      },
      i.2,
    )

pub net_kind-n-requires-in-Some : goal.net_kind-n-requires-in-Some
net_kind-n-requires-in-Some c =
    let a = c.args in
    let i = c.loop-member.invariant in
    let d = c.requires.0 in
    let room = client_room a.day.0 a.own.now (option_copied a.clients) a.securities _ c.loop-member-test.true _ _ _ i.0 _ _ c.net_kind-n.ensures.0 in (
      record {
        member_fits = record { above = i.1; below = c.loop-member-test.true };
        securities_fit = d.securities_fit;
        dated = d.dated;
        room = rw c.in-Some.is at room;
      },
      c.net_kind-n.ensures.1,
    )

pub loop-member-preserved : goal.loop-member-preserved
loop-member-preserved c =
    let a = c.args in
    let next = client_next a.day.0 a.own.now (option_copied a.clients) a.securities _ c.loop-member-test.true _ _ _ c.loop-member.invariant.0 _ _ c.net_kind-n.ensures.0 in (
      elim c.match-clients.branch [
        | in-Some w ↦ rw (w.rows-is, w.n-is, w.in-Some.is) (part_more _ _ _ _ _ (rw w.in-Some.is at next) _ _ w.net_kind-n-in-Some.ensures.0)
        | in_default w ↦ rw (w.rows-is, w.n-is, w.in_default.is) (rw w.in_default.is at next)
      ],
      omega arith,
      elim c.match-clients.branch [ in-Some w ↦ ap length w.rows-is ∙ w.net_kind-n-in-Some.ensures.1 | in_default w ↦ ap length w.rows-is ∙ c.net_kind-n.ensures.1 ],
    )

pub returns : goal.returns
returns c = let i = c.loop-member.invariant in (run_appended _ _ _ _ _ c.loop-member-test.false _ _ i.0, i.2)
