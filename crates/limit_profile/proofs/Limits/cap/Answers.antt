use Rattle.std.proofs.Common.{sym, ◌∙◌}
use Rattle.limit_profile.proofs.CapFacts.{cap-le, slice_index-caps}
use Rattle.limit_profile.proofs.Limits.cap.Goals as goal

pub returns-clause-listed : goal.returns-clause-listed
returns-clause-listed c = c.least_at.ensures.cap ∙ sym (slice_index-caps c.args.self.now c.args.point c.requires)

pub returns-clause-most : goal.returns-clause-most
returns-clause-most c = rw c.least_at.ensures.cap (cap-le c.args.self.now c.args.point)
