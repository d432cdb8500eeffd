use Rattle.std.proofs.Common.{arith, pos, neg_ℤ, ◌^◌, ◌-ℤ◌, SFits, w64}
use Rattle.std.proofs.lemmas.Int.{ints, to_z-of_z}
use Rattle.run_rules.proofs.GridFacts.{value_between-most, value_between-least}
use Rattle.table_laws.proofs.PartFacts.{IsOnTheWay, part-on_the_way}
use Rattle.table_laws.proofs.grid.value_between.Goals as goal

-- what is added to the lower value is a part of the rise
part-added : (c : goal.After-part_of) → IsOnTheWay c.args.low c.args.high c.part_of.result c.args.part c.args.all.now
part-added c =
    let low_fits : SFits w64 c.args.low = c.ranges.low in
    let high_fits : SFits w64 c.args.high = c.ranges.high in
    let rise_fits : SFits w64 (c.args.high -ℤ c.args.low) = omega (arith, ints) in
    let r = c.requires in
    part-on_the_way c.args.low c.args.high c.part_of.result c.args.part c.args.all.now r.low_most r.low_least r.high_most r.high_least r.inside r.some (simp to_z-of_z at c.part_of.ensures)

pub overflow_add-result : goal.overflow_add-result
overflow_add-result c = let way = part-added c in omega (arith, ints)

pub returns-clause-value : goal.returns-clause-value
returns-clause-value c = let way = part-added c in omega (arith, ints)

pub returns-clause-most : goal.returns-clause-most
returns-clause-most c =
    let r = c.requires in
    rw (returns-clause-value c) (value_between-most c.args.low c.args.high (pos (10 ^ 15)) c.args.part c.args.all.now r.inside r.some r.low_most r.high_most)

pub returns-clause-least : goal.returns-clause-least
returns-clause-least c =
    let r = c.requires in
    rw (returns-clause-value c) (value_between-least c.args.low c.args.high (neg_ℤ (pos (10 ^ 15))) c.args.part c.args.all.now r.inside r.some r.low_least r.high_least)
