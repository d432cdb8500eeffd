use Rattle.std.proofs.Common.{arith}
use Rattle.step_rule.proofs.SpanFacts.{most_of-le}
use Rattle.step_rule.proofs.Rule.braked_near.Goals as goal

pub overflow_add-result : goal.overflow_add-result
overflow_add-result c =
    let small = most_of-le c.args.self.now c.part_braked_from.ensures.kept in
    let most = c.part_braked_from.ensures.part.in_range in
    omega arith
