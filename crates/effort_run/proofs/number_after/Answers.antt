use Rattle.std.proofs.Common.{arith, refl, slice_index}
use Rattle.std.proofs.lemmas.Int.{ints}
use Rattle.step_rule.specs.Hills.{IsHeld}
use Rattle.effort_run.proofs.number_after.Goals as goal

pub returns-then-holds_speed-clause-next : goal.returns-then-holds_speed-clause-next
unfolding IsHeld
returns-then-holds_speed-clause-next g c =
    let up = c.if-holds_speed.ensures.held refl (slice_index c.args.e.now c.args.i) c.requires.in_range in
    record {
      capped = omega arith;
      driven = omega (arith, ints);
      moving = omega arith;
      greatest = λ u h d. h;
    }
