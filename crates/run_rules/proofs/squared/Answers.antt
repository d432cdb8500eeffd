use Rattle.run_rules.specs.Speeds.{squared}
use Rattle.run_rules.proofs.squared.Goals as goal

pub returns : goal.returns
unfolding squared
returns c = cc
