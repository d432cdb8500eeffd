use Rattle.std.proofs.Common.{arith}
use Rattle.time_brackets.proofs.TimeFacts.{speed_rounded_down-is, speed_rounded_down-up, speed_rounded_up-is}
use Rattle.time_brackets.proofs.speeds.Speeds.of.Goals as goal

pub invariant_of-result : goal.invariant_of-result
invariant_of-result c =
    let roots = c.both_roots-down.ensures in
    let fits = roots.fits in
    let same = c.from.ensures in
    let in_order = speed_rounded_down-up c.args.squared in
    let down = speed_rounded_down-is c.args.squared c.from.result c.both_roots-down.result.0 same roots.floor in
    let up = speed_rounded_up-is c.args.squared c.from.result c.both_roots-down.result.1 same roots.ceiling in
    record { right = record { rounded_down = down; rounded_up = up; down_fits = omega arith; up_fits = omega arith } }
