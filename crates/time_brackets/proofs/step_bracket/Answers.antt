use Rattle.std.proofs.Common.{◌≡◌, arith}
use Rattle.time_brackets.specs.Times.{longest_time, shortest_time}
use Rattle.time_brackets.proofs.TimeFacts.{longest_time-encloses, longest_time-le, shortest_time-encloses, shortest_time-longest}
use Rattle.time_brackets.proofs.step_bracket.Goals as goal

pub returns : goal.returns
returns g c =
    let lo : c.times_to.result.lo ≡ shortest_time c.args.a c.args.b = cc in
    let hi : c.times_to.result.hi ≡ longest_time c.args.a c.args.b = cc in
    let in_order = shortest_time-longest c.args.a c.args.b c.requires.moving in
    let short = longest_time-le c.args.a c.args.b c.requires.moving in
    record {
      lo = lo;
      hi = hi;
      not_longer = rw lo (shortest_time-encloses c.args.a c.args.b);
      not_shorter = rw hi (longest_time-encloses c.args.a c.args.b c.requires.moving);
      ordered = omega arith;
      short = omega arith;
      cost = omega arith;
    }
