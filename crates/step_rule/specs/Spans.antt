-- The search for the greatest squared speed from which a cell can end at some squared speed or below.
use Rattle.std.specs.Prelude.{ℕ, ◌+◌, ◌<◌, ◌≤◌, pos, ◌≤ℤ◌, ◌<ℤ◌}
use Rattle.run_rules.specs.Runs.{StepRule}
use Rattle.run_rules.specs.StepRules.{fall_from}
use Rattle.step_rule.specs.Motion.{Motion, most_of}

-- from squared speed `at` the cell can end at w or below, and from the greater `past` it can't
pub record IsSpan (rule : StepRule) (cell w at past : ℕ) : Type 0 where
  pub apart : at < past
  pub braked : rule.low cell at ≤ℤ pos w
  pub too_fast : pos w <ℤ rule.low cell past

-- from squared speed u full brakes end a cell at w or below, and from the next, if there is one, above
pub record IsBrakedFrom (motion : Motion) (w u : ℕ) : Type 0 where
  pub in_range : u ≤ most_of motion
  pub braked : fall_from motion.brake.rows u ≤ℤ pos w
  pub too_fast : u < most_of motion → pos w <ℤ fall_from motion.brake.rows (u + 1)
