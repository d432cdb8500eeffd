use Rattle.std.proofs.Common.{arith}
use Rattle.run_rules.specs.Grids.{band_width}
use Rattle.run_rules.specs.Speeds.{squared}
use Rattle.table_laws.proofs.near.Near.move_to.Goals as goal

pub returns-then-u-start-clause-inside : goal.returns-then-u-start-clause-inside
unfolding band_width
returns-then-u-start-clause-inside c = rw (← c.self.view_is) (omega arith)

pub overflow_sub-result-2 : goal.overflow_sub-result-2
unfolding squared
overflow_sub-result-2 c = omega arith

pub returns-clause-place : goal.returns-clause-place
unfolding squared
returns-clause-place c =
    let moved = c.self-2.view_is in
    rw (moved, c.above.ensures) (omega arith)

pub returns-clause-inside : goal.returns-clause-inside
unfolding squared band_width
returns-clause-inside c = omega arith
