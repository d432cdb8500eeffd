use Rattle.std.proofs.Common.{◌≡◌, ◌<◌, ◌≤◌, ℕ, length}
use Rattle.run_rules.specs.Grids.{row}
use Rattle.stock_tables.specs.Motion.{net_push, resistance_at}
use Rattle.stock_tables.proofs.motion.push_rows.Given as goal

abbrev pub invariant-loop-k : goal.invariant-loop-k
invariant-loop-k l = record {
  long : length l.rows.items ≡ length l.fn.efforts.items;
  done : (j : ℕ) → j < l.k → row l.rows.items j ≡ net_push (row l.fn.efforts.items j) (resistance_at l.resistance j);
  left : (j : ℕ) → l.k ≤ j → row l.rows.items j ≡ row l.fn.efforts.items j;
}
