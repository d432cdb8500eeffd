use Rattle.std.proofs.Common.{arith}
use Rattle.run_rules.specs.Caps.{bounds_at}
use Rattle.limit_profile.proofs.LeastFacts.{least-min}
use Rattle.limit_profile.proofs.bound_cap.Goals as goal

pub loop-bound-init : goal.loop-bound-init
loop-bound-init c = record {
  most = omega arith;
  same = least-min c.args.most (bounds_at c.args.bounds.now c.args.point);
}
