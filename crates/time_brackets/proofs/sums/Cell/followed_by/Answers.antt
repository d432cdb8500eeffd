use Rattle.std.proofs.Common.{arith}
use Rattle.time_brackets.proofs.TimeFacts.{AreTimes-same}
use Rattle.time_brackets.proofs.sums.Cell.followed_by.Goals as goal

pub returns-then-self-next : goal.returns-then-self-next
returns-then-self-next g c =
    let same = AreTimes-same c.args.self.enters c.args.self.leaves c.args.here.squared c.args.next.squared c.args.self.times.lo c.args.self.times.hi c.args.self.right (omega arith) (omega arith) c.requires in
    record { lo = same.0; hi = same.1; cost = c.tick.ensures }
