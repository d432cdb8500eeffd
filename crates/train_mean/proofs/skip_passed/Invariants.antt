use Rattle.std.proofs.Common.{length}
use Rattle.train_mean.specs.Windows.{AreSlopes, TellsFrom}
use Rattle.train_mean.proofs.skip_passed.Given as goal

abbrev pub invariant-loop-left : goal.invariant-loop-left
invariant-loop-left l = record {
  tells : TellsFrom l.cell l.slopes l.left;
  slopes : AreSlopes l.left;
}

abbrev pub decreases-loop-left : goal.decreases-loop-left
decreases-loop-left l = length l.left
