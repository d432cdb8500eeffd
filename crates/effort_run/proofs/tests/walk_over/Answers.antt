use Rattle.std.proofs.Common.{◌≡◌, ℕ, ◌<◌, ◌≤◌, arith, length, rules, slice_index, true}
use Rattle.step_rule.specs.Motion.{kmh_of}
use Rattle.table_laws.proofs.ToyFacts.{squared-toy}
use Rattle.effort_run.proofs.LevelFacts.{IsBrakingList-level}
use Rattle.effort_run.proofs.tests.walk_over.Goals as goal

pub walk_on-requires-clause-brakes : goal.walk_on-requires-clause-brakes
walk_on-requires-clause-brakes g c =
    let holds : c.brakes.result ≡ true = search rules in
    let small : (i : ℕ) → i < length c.args.c.now → slice_index c.args.c.now i ≤ 36000000 = rw holds at c.brakes.ensures.in_range in
    record {
      points = omega arith;
      small = λ i l. squared-toy (kmh_of c.args.rule.now) (slice_index c.args.c.now i) c.requires.top (small i l);
      list = IsBrakingList-level c.args.rule.now c.args.c.now c.requires.brakes small (rw holds at c.brakes.ensures.braked);
    }
