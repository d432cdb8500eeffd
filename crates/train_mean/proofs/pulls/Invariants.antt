use Rattle.std.proofs.Common.{◌≡◌, ◌-◌, All, map}
use Rattle.std.specs.List.{range_with_len}
use Rattle.run_rules.specs.StepRules.{IsPull}
use Rattle.train_mean.specs.Gradients.{gradient_at, gradients_under, pull_of, sum_from}
use Rattle.train_mean.specs.Windows.{AreSlopes, Passes, TellsFrom, gradient_left}
use Rattle.train_mean.proofs.pulls.Given as goal

abbrev pub invariant-loop-cell : goal.invariant-loop-cell
invariant-loop-cell l = record {
  head_tells : TellsFrom l.cell l.line.slopes l.head.slopes.now;
  head_slopes : AreSlopes l.head.slopes.now;
  head_passes : Passes (gradient_at l.head.slopes.now) l.cell l.head.to l.head.tenths;
  tail_tells : TellsFrom (l.cell - l.train) l.line.slopes l.tail.slopes.now;
  tail_slopes : AreSlopes l.tail.slopes.now;
  tail_passes : Passes (gradient_left l.tail.slopes.now l.train) l.cell l.tail.to l.tail.tenths;
  sum : l.sum ≡ sum_from (gradient_at l.line.slopes) (l.cell - l.train) (l.cell - (l.cell - l.train));
  pulls : l.pulls.items ≡ map (λ cell. pull_of l.mass l.train (gradients_under l.line.slopes l.train cell)) (range_with_len 0 l.cell);
  pulled : l.under.pull ≡ pull_of l.mass l.train l.under.sum;
  small : All IsPull l.pulls.items;
}
