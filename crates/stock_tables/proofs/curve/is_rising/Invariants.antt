use Rattle.std.proofs.Common.{ℕ, ◌<◌, suc, get_or}
use Rattle.stock_tables.specs.Curve.{speeds}
use Rattle.stock_tables.proofs.curve.is_rising.Given as goal

abbrev pub invariant-loop-i : goal.invariant-loop-i
invariant-loop-i l = (j : ℕ) → suc j < l.i → get_or (speeds l.rows) j 0 < get_or (speeds l.rows) (suc j) 0
