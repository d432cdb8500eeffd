use Rattle.std.proofs.Common.{◌≡◌, ℕ, ◌<◌, ◌≤◌, ◌≤ℤ◌}
use Rattle.run_rules.specs.Grids.{row, top_of}
use Rattle.table_laws.proofs.least_of.Given as goal

abbrev pub invariant-loop-k : goal.invariant-loop-k
invariant-loop-k l = record {
  each : (j : ℕ) → j < l.k → l.least ≤ℤ row l.rows j;
  some : (j : ℕ) × (j ≤ top_of l.rows) × (l.least ≡ row l.rows j);
}
