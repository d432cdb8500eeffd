use Rattle.std.proofs.Common.{◌≡◌, ◌+◌, ◌-◌, arith}
use Rattle.step_rule.proofs.SpanFacts.{IsHalf-side, gap-halved, halvings-few}
use Rattle.step_rule.proofs.Rule.halved.Goals as goal

pub loop-span-init : goal.loop-span-init
loop-span-init g c =
    let none : c.args.steps.now - c.args.steps.now ≡ 0 = omega arith in
    record {
      span = c.requires.span;
      from = omega arith;
      within = omega arith;
      halved = rw none (omega arith);
      least = omega arith;
      few = λ n s. omega arith;
    }

pub loop-span-preserved : goal.loop-span-preserved
loop-span-preserved g c =
    let l = c.loop-span in
    let old = l.invariant in
    let next = c.narrowed-span.ensures in
    let side = IsHalf-side l.span.at l.span.past c.narrowed-span.result.at c.narrowed-span.result.past c.loop-span-test.true next.side in
    let whole = c.args.span.past - c.args.span.at - 1 in
    let gap = l.span.past - l.span.at - 1 in
    let taken = l.steps - c.args.steps.now in
    let least = old.least in
    let more : c.narrowed-span.new.steps - c.args.steps.now ≡ taken + 1 = omega (arith, next.cost, least) in
    record {
      span = next.span;
      from = omega (arith, side.from_at, old.from);
      within = omega (arith, side.to_past, old.within);
      halved = rw more (gap-halved gap (c.narrowed-span.result.past - c.narrowed-span.result.at - 1) taken whole side.half old.halved);
      least = omega (arith, next.cost, least);
      few = λ n s. let few = halvings-few gap taken whole n (omega (arith, c.loop-span-test.true)) old.halved s in omega (arith, next.cost, least);
    }

pub returns : goal.returns
returns g c =
    let old = c.loop-span.invariant in
    let apart = old.span.apart in
    let last : c.loop-span.span.past ≡ c.loop-span.span.at + 1 = omega (arith, c.loop-span-test.false) in
    record {
      from = old.from;
      within = omega (arith, old.within);
      greatest = rw last at old.span;
      cost = λ n h. old.few n (let first = c.requires.span.apart in omega arith);
    }
