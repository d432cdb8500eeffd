use Rattle.std.proofs.Common.{arith}
use Rattle.run_rules.specs.Grids.{band_width}
use Rattle.table_laws.proofs.near.Near.above.Goals as goal

pub invariant_of-result : goal.invariant_of-result
unfolding band_width
invariant_of-result c = record { slow = c.requires; wide = omega arith }
