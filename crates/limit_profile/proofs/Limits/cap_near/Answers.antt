use Rattle.std.proofs.Common.{arith, sym, ◌∙◌}
use Rattle.limit_profile.specs.Levels.{IsLevel}
use Rattle.limit_profile.proofs.CapFacts.{cap-le, slice_index-caps}
use Rattle.limit_profile.proofs.Limits.cap_near.Goals as goal

pub returns-then-point-level-clause-cap : goal.returns-then-point-level-clause-cap
unfolding IsLevel
returns-then-point-level-clause-cap c = sym (c.requires.level c.args.point (omega arith) (omega arith))

pub returns-then-point-level-clause-listed : goal.returns-then-point-level-clause-listed
returns-then-point-level-clause-listed c = returns-then-point-level-clause-cap c ∙ sym (slice_index-caps c.args.self.now c.args.point c.requires.on_line)

pub returns-then-point-level-clause-most : goal.returns-then-point-level-clause-most
returns-then-point-level-clause-most c = rw (returns-then-point-level-clause-cap c) (cap-le c.args.self.now c.args.point)

pub returns-clause-cap : goal.returns-clause-cap
unfolding IsLevel
returns-clause-cap c = sym (c.level_at.ensures.level c.args.point (omega arith) (omega arith))

pub returns-clause-listed : goal.returns-clause-listed
returns-clause-listed c = returns-clause-cap c ∙ sym (slice_index-caps c.args.self.now c.args.point c.requires.on_line)

pub returns-clause-most : goal.returns-clause-most
returns-clause-most c = rw (returns-clause-cap c) (cap-le c.args.self.now c.args.point)
