-- The step rule: what one metre makes of a squared speed, which changes by twice acceleration times distance.
use Rattle.std.specs.Prelude.{ℕ, ◌^◌, ℤ, pos, neg_ℤ, ◌≤ℤ◌, ◌+ℤ◌, ◌-ℤ◌, List}
use Rattle.std.specs.Int.{int_min}
use Rattle.unit_rules.specs.Limits.{greatest_pull}
use Rattle.unit_rules.specs.Quotients.{floor_div}
use Rattle.run_rules.specs.Grids.{row, value_at}
use Rattle.run_rules.specs.Runs.{StepRule}

-- at full effort: push less pull, by the moved mass, rounded down
unfoldable pub up_from : List ℤ → ℕ → ℤ → ℕ → ℤ
up_from push moved pull u = pos u +ℤ floor_div (value_at push u -ℤ pull) moved

-- under full brakes, which hold their rate on any gradient
unfoldable pub fall_from : List ℤ → ℕ → ℤ
fall_from brake u = pos u -ℤ value_at brake u

-- the least: full effort is always allowed, also where a hill slows the train more than its brakes
unfoldable pub low_from : List ℤ → List ℤ → ℕ → ℤ → ℕ → ℤ
low_from push brake moved pull u = int_min (up_from push moved pull u) (fall_from brake u)

-- the rule of a train on a line, by its tables of push and brakes, its moved mass and the pull at each cell
abbrev pub rule_of : List ℤ → List ℤ → ℕ → List ℤ → StepRule
rule_of push brake moved pulls = record {
  up = λ cell u. up_from push moved (row pulls cell) u;
  low = λ cell u. low_from push brake moved (row pulls cell) u;
}

-- the pull of the gradient at a cell, in the units of push, is at most 10^13 either way
pub record IsPull (pull : ℤ) : Type 0 where
  pub least : neg_ℤ (pos greatest_pull) ≤ℤ pull
  pub most : pull ≤ℤ pos greatest_pull
