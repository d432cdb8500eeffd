use Rattle.allowances.specs.Progress.{HaveEnded}
use Rattle.allowances.proofs.progress.Progress.to.Given as goal

-- the allowances before this one have ended
abbrev pub invariant-loop-index : goal.invariant-loop-index
invariant-loop-index l = HaveEnded l.allowances l.point l.index l.added
