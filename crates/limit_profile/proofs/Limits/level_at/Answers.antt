use Rattle.std.proofs.Common.{ap, arith, ◌∙◌}
use Rattle.limit_profile.specs.Levels.{IsLevel}
use Rattle.limit_profile.specs.Profile.{Profile}
use Rattle.limit_profile.proofs.CapFacts.{cap-level}
use Rattle.limit_profile.proofs.Limits.level_at.Goals as goal

pub returns-clause-level : goal.returns-clause-level
unfolding IsLevel
returns-clause-level c = λ i l h.
    let limits = c.args.self.now in
    let held = ap (λ (p : Profile). p.bounds) c.self.view_is in
    let zones = c.zoned_level-zones.ensures.level i (omega arith) (omega arith) in
    let bounds = rw (c.deref.ensures.value ∙ held) at (c.bounds_stretch-bounds.ensures.same i (omega arith) (omega arith)) in
    cap-level limits i c.args.point c.zoned_level-zones.result.cap c.bound_cap.result zones bounds (rw (c.deref-2.ensures.value ∙ held) at c.bound_cap.ensures)
