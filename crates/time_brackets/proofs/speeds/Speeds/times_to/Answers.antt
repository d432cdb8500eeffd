use Rattle.std.proofs.Common.{arith}
use Rattle.time_brackets.proofs.TimeFacts.{AreSpeeds-some, longest_time-is, shortest_time-is}
use Rattle.time_brackets.proofs.speeds.Speeds.times_to.Goals as goal

pub nonzero_div-lo : goal.nonzero_div-lo
nonzero_div-lo g c =
    let some = AreSpeeds-some c.args.self.squared c.args.to.squared c.args.self.down c.args.to.down c.args.self.up c.args.to.up c.args.self.right c.args.to.right c.requires.moving in
    omega (arith, some.0, some.1)

pub div_ceil-hi-requires : goal.div_ceil-hi-requires
div_ceil-hi-requires g c =
    let some = AreSpeeds-some c.args.self.squared c.args.to.squared c.args.self.down c.args.to.down c.args.self.up c.args.to.up c.args.self.right c.args.to.right c.requires.moving in
    omega (arith, some.0, some.1)

pub returns-clause-lo : goal.returns-clause-lo
returns-clause-lo g c = shortest_time-is c.args.self.squared c.args.to.squared c.args.self.up c.args.to.up c.args.self.right.rounded_up c.args.to.right.rounded_up

pub returns-clause-hi : goal.returns-clause-hi
returns-clause-hi g c = longest_time-is c.args.self.squared c.args.to.squared c.args.self.down c.args.to.down c.div_ceil-hi.result c.args.self.right.rounded_down c.args.to.right.rounded_down c.div_ceil-hi.ensures
