use Rattle.std.proofs.Common.{◌≡◌, ℕ, ◌+◌, ◌*◌, ◌≤◌, ◌∷◌, None, take, filter, sum_by, All}
use Rattle.allowances.specs.declared.RowKind.TheVariants.{Start}
use Rattle.allowances.specs.Arrivals.{dwell_at, is_before}
use Rattle.allowances.specs.Progress.{HaveEnded}
use Rattle.allowances.specs.Rows.{IsTimed, row_at}
use Rattle.allowances.proofs.RowFacts.{call_rows}
use Rattle.allowances.proofs.run.Run.rows.Given as goal

-- the rows of the calls so far, and the progress behind them
abbrev pub invariant-loop-index : goal.invariant-loop-index
invariant-loop-index g l = record {
  rows : l.rows.items ≡ row_at l.self.plan.now l.self.e.now 0 Start 0 None ∷ call_rows l.self.plan.now l.self.e.now l.index;
  timed : All IsTimed l.rows.items;
  seconds : l.progress.seconds ≡ l.self.plan.now.depart + sum_by dwell_at (filter (is_before l.self.length) (take l.index l.self.plan.now.calls));
  ended : (i : ℕ) → All (λ c. c.at ≤ i) (take l.index l.self.plan.now.calls) → HaveEnded l.self.allowances.now i l.progress.ended l.progress.added;
  cost : l.steps ≤ l.fn.steps + 512 * (l.index + 1);
  cost_most : l.steps ≤ l.fn.steps + l.self.length * (l.index + 1);
}
