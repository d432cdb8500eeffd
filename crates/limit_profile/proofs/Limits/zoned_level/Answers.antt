use Rattle.std.proofs.Common.{◌+◌, arith, ◌∙◌}
use Rattle.limit_profile.specs.Course.{zoned}
use Rattle.limit_profile.proofs.BreakFacts.{breaks_below-starts}
use Rattle.limit_profile.proofs.Limits.zoned_level.Goals as goal

pub break_up_to-index-requires : goal.break_up_to-index-requires
break_up_to-index-requires c =
    let course = c.self.inside.course in
    breaks_below-starts (zoned course c.self.inside.zones.items) (course.length + 1) c.deref.result.now (omega arith) (c.deref.ensures.value ∙ c.self.invariant.listed)
