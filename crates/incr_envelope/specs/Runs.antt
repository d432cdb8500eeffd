-- What is kept of the fastest run of a train.
use Rattle.std.specs.Prelude.{◌≡◌, ℕ, ◌+◌, Bool, ◌&&◌, nat_le, List, take}
use Rattle.run_rules.specs.Drives.{HoldsEnvelope}
use Rattle.run_rules.specs.Runs.{IsBrakingList, ReachesAs, StepRule}
use Rattle.run_rules.specs.Walks.{AgreeOutside, count_of}
use Rattle.time_brackets.specs.Sums.{StandsFor}
use Rattle.incr_envelope.specs.Touched.{Lists}
use Rattle.incr_envelope.specs.declared.run.Run.{Run}

-- how many speeds are known on a line of so many cells
abbrev pub known_in : ℕ → Run → ℕ
known_in cells r = count_of (cells + 1) r.reach

-- the lists of a run: its braking numbers, and the speeds that are known
abbrev pub lists_of : ℕ → Run → Lists
lists_of cells r = record { brakes = r.brakes.items; speeds = take (known_in cells r) r.speeds.items }

-- it is the fastest run by the rule under the caps x on a line of so many cells, or its stall
pub record IsFastest (rule : StepRule) (cells top : ℕ) (x : List ℕ) (r : Run) : Type 0 where
  pub brakes : IsBrakingList rule x r.brakes.items
  pub envelope : HoldsEnvelope rule cells top r.brakes.items r.speeds.items (known_in cells r)
  pub reaches : ReachesAs rule x r.speeds.items r.reach
  pub sums : StandsFor r.sums r.speeds.items (known_in cells r)
  pub summed : r.sums.cells ≡ cells

-- it was the fastest run under other caps, which differ from x at points from..=to alone
pub record WasFastest (rule : StepRule) (cells top : ℕ) (x : List ℕ) (from to : ℕ) (r : Run) : Type 0 where
  pub older : List ℕ
  pub agree : AgreeOutside older x from to
  pub fastest : IsFastest rule cells top older r

-- whether a point is in from..=to
abbrev pub is_within : ℕ → ℕ → ℕ → Bool
is_within from to i = nat_le from i && nat_le i to
