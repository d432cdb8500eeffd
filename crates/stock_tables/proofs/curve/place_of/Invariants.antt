use Rattle.std.proofs.Common.{length, ◌-◌}
use Rattle.stock_tables.specs.Walk.{IsPassed}
use Rattle.stock_tables.proofs.curve.place_of.Given as goal

abbrev pub invariant-loop-place : goal.invariant-loop-place
invariant-loop-place l = IsPassed l.rows l.place l.kmh

abbrev pub decreases-loop-place : goal.decreases-loop-place
decreases-loop-place l = length l.rows - l.place
