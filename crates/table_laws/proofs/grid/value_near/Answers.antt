use Rattle.std.proofs.Common.{arith, refl, SFits, w64, ◌+◌}
use Rattle.std.proofs.lemmas.Int.{ints, to_z-of_z}
use Rattle.run_rules.specs.Grids.{band_width, row, top_of}
use Rattle.run_rules.proofs.SpeedFacts.{squared-mono, squared-500}
use Rattle.run_rules.proofs.GridFacts.{kmh-at_most, kmh-below, value_at-placed, value_at-row}
use Rattle.table_laws.proofs.PartFacts.{band_width-most}
use Rattle.table_laws.proofs.grid.value_near.Goals as goal

pub move_to-part-requires : goal.move_to-part-requires
move_to-part-requires c =
    let t = c.requires.table in
    let m = squared-mono (top_of c.args.rows.now) 500 (omega arith) in
    let e = squared-500 in
    omega arith

pub bounds-rows-kmh : goal.bounds-rows-kmh
bounds-rows-kmh c =
    let place = c.move_to-part.ensures.place in
    let k = kmh-at_most c.move_to-part.new.self (top_of c.args.rows.now) c.move_to-part.result (omega arith) in
    let t = c.requires.table in
    omega arith

pub returns-then-part-eq0-clause-value : goal.returns-then-part-eq0-clause-value
returns-then-part-eq0-clause-value c =
    let place = c.move_to-part.ensures.place in
    let kmh = c.move_to-part.new.self in
    let k = kmh-at_most kmh (top_of c.args.rows.now) c.move_to-part.result (omega arith) in
    let v = value_at-row c.args.rows.now c.args.u kmh c.move_to-part.result (band_width kmh) place c.move_to-part.ensures.inside refl c.if-part-eq0.true in
    let most = c.requires.table.most kmh k in
    let least = c.requires.table.least kmh k in
    rw c.kmh-kmh.ensures.kmh (omega (arith, ints))

pub bounds-rows-kmh-2 : goal.bounds-rows-kmh-2
bounds-rows-kmh-2 c =
    let place = c.move_to-part.ensures.place in
    let k = kmh-below c.move_to-part.new.self (top_of c.args.rows.now) c.move_to-part.result (omega arith) (omega arith) in
    omega arith

pub value_between-requires-clause-few : goal.value_between-requires-clause-few
value_between-requires-clause-few c = rw c.width.ensures.width (band_width-most c.move_to-part.new.self c.width.ensures.slow)

pub returns-clause-value : goal.returns-clause-value
returns-clause-value c =
    let rows = c.args.rows.now in
    let place = c.move_to-part.ensures.place in
    let kmh = c.move_to-part.new.self in
    let k = kmh-below kmh (top_of rows) c.move_to-part.result (omega arith) (omega arith) in
    let v = value_at-placed rows c.args.u kmh c.move_to-part.result c.width.result.now place (omega arith) c.width.ensures.width in
    let most = c.requires.table.most kmh (omega arith) in
    let least = c.requires.table.least kmh (omega arith) in
    let next_most = c.requires.table.most (kmh + 1) (omega arith) in
    let next_least = c.requires.table.least (kmh + 1) (omega arith) in
    let low_fits : SFits w64 (row rows kmh) = omega (arith, ints) in
    let high_fits : SFits w64 (row rows (kmh + 1)) = omega (arith, ints) in
    let q = simp to_z-of_z at (rw c.kmh-kmh.ensures.kmh at c.value_between.ensures.value) in
    omega (arith, ints)
