use Rattle.std.proofs.Common.{arith}
use Rattle.limit_profile.specs.Levels.{IsLevel}
use Rattle.limit_profile.proofs.Level.empty.Goals as goal

pub returns : goal.returns
unfolding IsLevel
returns c = λ p i l h. absurd (omega arith)
