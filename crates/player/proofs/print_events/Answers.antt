use Prim.Native.Nat.{◌-◌}
use native.Mathlib.Omega.{arith}
use mathlib.Core.Path.{◌≡◌, refl, sym, ◌∙◌}
use lib.ListN.{length}
use borrow.Author.Rules.{rules}
use Rattle.laws.specs.Limits.{SHEET_CELLS}
use Rattle.replay.proofs.Playing.{none_played}
use Rattle.player.proofs.Pages.{Between, played_within, next_page, all_played}
use Rattle.player.proofs.print_events.Goals as goal

pub overflow_cast-count : goal.overflow_cast-count
overflow_cast-count c = omega arith

pub loop-i-init : goal.loop-i-init
loop-i-init c =
    (record { long = c.requires.2; place = omega arith; played' = none_played _ _ c.requires.0 }, c.requires.1, refl)

pub play_events-some-requires : goal.play_events-some-requires
play_events-some-requires c =
    (c.loop-i.invariant.0.played'.held, c.loop-i.invariant.1)

pub print_page-requires : goal.print_page-requires
print_page-requires c = played_within _ _ _ _ _ _ _ _ c.play_events-some.ensures.0

pub loop-i-smaller : goal.loop-i-smaller
loop-i-smaller c =
    let within = c.loop-i-test.true in
    omega (arith, within, c.play_events-some.ensures.0.further (omega (arith, c.events_in-count.ensures, within)) (omega (arith, c.loop-i.invariant.0.long)))

pub loop-i-preserved : goal.loop-i-preserved
loop-i-preserved c =
    let b = next_page _ _ _ _ _ _ _ _ _ _ c.loop-i.invariant.0 c.play_events-some.ensures.0 in
    (b, c.play_events-some.ensures.1, b.long ∙ sym c.requires.2)

pub shape_of-page : goal.shape_of-page
shape_of-page c = c.loop-i.invariant.2

pub returns : goal.returns
returns c =
    (all_played _ _ _ _ _ _ _ c.loop-i.invariant.0 (omega (arith, c.events_in-count.ensures, c.loop-i-test.false)), c.loop-i.invariant.0.long)
