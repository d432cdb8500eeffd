use Rattle.std.proofs.Common.{◌≡◌, ◌≤ℤ◌, arith, neg_ℤ, pos, ◌*ℤ◌, ◌*◌, ◌^◌}
use Rattle.std.proofs.lemmas.Int.{ints}
use Rattle.unit_rules.specs.Quotients.{floor_div}
use Rattle.unit_rules.proofs.FloorFacts.{floor_div-part_most, floor_div-part_least}
use Rattle.table_laws.proofs.PartFacts.{large_part-is}
use Rattle.table_laws.proofs.grid.large_part_of.Goals as goal

-- the quotient in 128 bits is that part of the rise, which is no longer than the rise may be
quotient-is : (c : goal.After-div_floor) → (c.div_floor.result ≡ floor_div (c.args.rise *ℤ pos c.args.part) c.args.all.now) × (c.div_floor.result ≤ℤ pos (2 * 10 ^ 15)) × (neg_ℤ (pos (2 * 10 ^ 15)) ≤ℤ c.div_floor.result)
quotient-is c =
    let a = c.args in
    let r = c.requires in
    let q = large_part-is a.rise c.div_floor.result c.from.result c.from-2.result c.from-3.result a.part a.all.now c.ranges.rise r.most r.least (omega arith) r.few c.from.ensures c.from-2.ensures (rw c.number.ensures.number at c.from-3.ensures) c.div_floor.ensures.quotient in
    let most = floor_div-part_most a.rise a.part a.all.now (2 * 10 ^ 15) r.inside r.some r.most in
    let least = floor_div-part_least a.rise a.part a.all.now (2 * 10 ^ 15) r.inside r.some r.least in
    (q, rw q most, rw q least)

pub overflow_cast-result : goal.overflow_cast-result
overflow_cast-result c = omega (arith, ints, quotient-is c)

pub returns : goal.returns
returns c = omega (arith, ints, quotient-is c)
