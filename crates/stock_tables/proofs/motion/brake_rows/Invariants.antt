use Rattle.std.proofs.Common.{◌≡◌, ◌<◌, ◌≤◌, ℕ, length}
use Rattle.run_rules.specs.Grids.{row}
use Rattle.stock_tables.specs.Motion.{brake_loss}
use Rattle.stock_tables.proofs.motion.brake_rows.Given as goal

abbrev pub invariant-loop-k : goal.invariant-loop-k
invariant-loop-k l = record {
  long : length l.rows.items ≡ length l.fn.rates.items;
  done : (j : ℕ) → j < l.k → row l.rows.items j ≡ brake_loss (row l.fn.rates.items j);
  left : (j : ℕ) → l.k ≤ j → row l.rows.items j ≡ row l.fn.rates.items j;
}
