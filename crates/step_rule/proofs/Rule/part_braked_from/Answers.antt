use Rattle.std.proofs.Common.{arith, SFits, w64, pos}
use Rattle.std.proofs.lemmas.Int.{ints, to_z-of_z}
use Rattle.step_rule.proofs.BrakeFacts.{IsBrakedFrom-part}
use Rattle.step_rule.proofs.Rule.part_braked_from.Goals as goal

pub parts_within-requires-clause-below : goal.parts_within-requires-clause-below
parts_within-requires-clause-below c =
    let here_fits : SFits w64 c.fall_at_kmh-here.result = omega (arith, ints) in
    let next_fits : SFits w64 c.fall_at_kmh.result = omega (arith, ints) in
    let w_fits : SFits w64 (pos c.args.w) = omega (arith, ints) in
    let gap = simp to_z-of_z at (rw c.from.ensures at c.abs_diff-gap.ensures) in
    let rise = simp to_z-of_z at c.abs_diff-rise.ensures in
    let here = c.fall_at_kmh-here.ensures.value in
    let next = c.fall_at_kmh.ensures.value in
    omega (arith, ints)

pub returns-clause-part : goal.returns-clause-part
returns-clause-part c =
    let here_fits : SFits w64 c.fall_at_kmh-here.result = omega (arith, ints) in
    let next_fits : SFits w64 c.fall_at_kmh.result = omega (arith, ints) in
    let w_fits : SFits w64 (pos c.args.w) = omega (arith, ints) in
    IsBrakedFrom-part c.args.self.now c.args.kmh c.args.w c.abs_diff-gap.result c.abs_diff-rise.result c.parts_within.result c.fall_at_kmh-here.result c.fall_at_kmh.result
    (record {
      below_top = c.requires.below_top;
      first = c.fall_at_kmh-here.ensures.value;
      last = c.fall_at_kmh.ensures.value;
      braked = rw c.fall_at_kmh-here.ensures.value c.requires.braked;
      past = rw c.fall_at_kmh.ensures.value c.requires.past;
      gap_is = simp to_z-of_z at (rw c.from.ensures at c.abs_diff-gap.ensures);
      rise_is = simp to_z-of_z at c.abs_diff-rise.ensures;
    })
    c.parts_within.ensures
