use Rattle.std.proofs.Common.{ap, refl, sym, ◌∙◌}
use Rattle.limit_profile.specs.Profile.{Profile}
use Rattle.limit_profile.proofs.CapFacts.{cap-level}
use Rattle.limit_profile.proofs.Limits.least_at.Goals as goal

pub returns-clause-cap : goal.returns-clause-cap
returns-clause-cap c =
    let limits = c.args.self.now in
    let zones = c.zoned_level.ensures.level c.args.point c.zoned_level.ensures.from c.zoned_level.ensures.to in
    let bounds = c.deref.ensures.value ∙ ap (λ (p : Profile). p.bounds) c.self.view_is in
    sym (cap-level limits c.args.point c.args.point c.zoned_level.result.cap c.bound_cap.result zones refl (rw bounds at c.bound_cap.ensures))
