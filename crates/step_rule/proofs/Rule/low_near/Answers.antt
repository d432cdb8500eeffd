use Rattle.std.proofs.Common.{arith, refl}
use Rattle.std.proofs.lemmas.Int.{ints}
use Rattle.run_rules.specs.Grids.{row}
use Rattle.step_rule.proofs.HillFacts.{low_from-gentle}
use Rattle.step_rule.proofs.Rule.low_near.Goals as goal

pub returns-then-is_gentle-clause-value : goal.returns-then-is_gentle-clause-value
returns-then-is_gentle-clause-value g c =
    let fall = c.fall_near.ensures.value in
    let same = low_from-gentle c.args.self.now (row c.args.self.now.pulls c.args.cell) c.args.u (c.if-is_gentle.ensures.gentle refl) c.requires.in_range in
    omega (arith, ints)
