-- Hills that a train's push and its brakes make up for, by the pull of the gradient.
use Rattle.std.specs.Prelude.{ℕ, ◌≤◌, ℤ, pos, ◌≤ℤ◌}
use Rattle.run_rules.specs.StepRules.{fall_from, up_from}
use Rattle.step_rule.specs.Motion.{IsMotion, Motion, most_of}

-- at full effort a train loses no speed under the pull, from whichever squared speed
unfoldable pub IsHeld : Motion → ℤ → Type 0
IsHeld motion pull = (u : ℕ) → u ≤ most_of motion → pos u ≤ℤ up_from motion.push.rows motion.moved pull u

-- at full effort the pull slows a train no more than full brakes do, from whichever squared speed
unfoldable pub IsGentle : Motion → ℤ → Type 0
IsGentle motion pull = (u : ℕ) → u ≤ most_of motion
    → fall_from motion.brake.rows u ≤ℤ up_from motion.push.rows motion.moved pull u

-- a motion, with a pull that is held and one that is gentle
pub record KnowsHills (motion : Motion) (some_held some_gentle : ℤ) : Type 0 where
  pub moves : IsMotion motion
  pub held : IsHeld motion some_held
  pub gentle : IsGentle motion some_gentle
