use Rattle.std.proofs.Common.{ℕ, ◌-◌, ◌+◌, ◌≡◌, refl, ap, sym, ◌∙◌, arith, rules, replicate, min}
use Rattle.laws.specs.Limits.{LAST_DAY}
use Rattle.plain.specs.Histories.{run}
use Rattle.machine.specs.View.{book_of}
use Rattle.probe.specs.Last.{closing}
use Rattle.probe.proofs.Closing.{close_next, close_none, closes_enough}
use Rattle.probe.proofs.closed.Goals as goal

pub loop-init : goal.loop-init
loop-init c =
    (c.requires, ap (λ (n : ℕ). run (book_of c.args.core c.args.lent.now) (replicate n closing)) (omega arith))

pub close-requires : goal.close-requires
close-requires c = c.loop.invariant.0

pub loop-preserved : goal.loop-preserved
loop-preserved c =
    let r = c.close.ensures.called.called in
    let n = c.min-end.result in
    let k = c.loop.counter in
    let fewer : n - (k + 1) ≡ n - k - 1 = omega arith in (
      record { valid = r.returned.valid; lent = r.lent },
      ap (λ (m : ℕ). run (book_of c.close.result.core c.close.new.lent) (replicate m closing)) fewer
          ∙ close_next (book_of c.loop.after c.loop.lent) _ (n - k) (omega (arith, c.loop-test.true)) r.returned.book
          ∙ c.loop.invariant.1,
    )

pub returns : goal.returns
returns c =
    let first = book_of c.args.core c.args.lent.now in
    let n = c.min-end.result in
    record {
      held = c.loop.invariant.0;
      closed =
          sym (close_none (book_of c.loop.after c.loop.lent) (n - c.loop.counter) (omega (arith, c.loop-test.false)))
          ∙ c.loop.invariant.1
          ∙ ap (λ (m : ℕ). run first (replicate m closing)) (let same : n ≡ min c.args.closes LAST_DAY = omega (arith, c.min-end.ensures, c.from.ensures) in same)
          ∙ closes_enough LAST_DAY c.args.closes first (omega arith);
    }
