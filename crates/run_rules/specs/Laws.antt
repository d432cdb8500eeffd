-- What holds of every step rule and all lists of numbers, by the definitions of runs alone.
use Rattle.std.specs.Prelude.{◌≡◌, ℕ, ◌-◌, ◌<◌, ◌≤◌, max, List, length, replicate, slice_index}
use Rattle.run_rules.specs.Runs.{IsBrakingList, IsMonotone, IsRun, IsStalled, Keeps, StepRule}
use Rattle.run_rules.specs.Walks.{AgreeOutside}

-- m has at each of the points the greater number of q and r
pub record IsGreaterOf (q r m : List ℕ) (points : ℕ) : Type 0 where
  pub same_points : length m ≡ points
  pub greater : (i : ℕ) → i < points → slice_index m i ≡ max (slice_index q i) (slice_index r i)

-- the greater of two lists that keep the rule up to a point keeps it too; so where there is one such list there is a
-- greatest
abbrev pub GreaterKeeps : Type 0
GreaterKeeps = (rule : StepRule) (x q r m : List ℕ) (k top : ℕ)
    → IsMonotone rule (length x - 1) top → ((i : ℕ) → i < length x → slice_index x i ≤ top)
    → k < length x → Keeps rule x q k → Keeps rule x r k → IsGreaterOf q r m (length x) → Keeps rule x m k

-- a train is stalled at one point at most, and where there is a run at none
abbrev pub StallsOnce : Type 0
StallsOnce = (rule : StepRule) (x : List ℕ) (j k : ℕ) → IsStalled rule x j → IsStalled rule x k → j ≡ k

abbrev pub RunsOrStalls : Type 0
RunsOrStalls = (rule : StepRule) (x q : List ℕ) (k : ℕ) → IsRun rule x q → IsStalled rule x k → ⊥

-- a train that stands at every point brakes by the rule, so there is a list that does
abbrev pub StandingBrakes : Type 0
StandingBrakes = (rule : StepRule) (x : List ℕ) (top : ℕ)
    → IsMonotone rule (length x - 1) top → Keeps rule x (replicate (length x) 0) 0

-- where the caps x and y agree outside from..=to, their braking lists agree past `to`
abbrev pub BrakesAlikePast : Type 0
BrakesAlikePast = (rule : StepRule) (x y c d : List ℕ) (from to i : ℕ)
    → AgreeOutside x y from to → IsBrakingList rule x c → IsBrakingList rule y d
    → to < i → i < length x → slice_index c i ≡ slice_index d i

-- and if they agree at a point below `from`, they agree at every lower point
abbrev pub BrakesAlikeBelow : Type 0
BrakesAlikeBelow = (rule : StepRule) (x y c d : List ℕ) (from to i j : ℕ)
    → AgreeOutside x y from to → IsBrakingList rule x c → IsBrakingList rule y d
    → j < from → j < length x → slice_index c j ≡ slice_index d j
    → i ≤ j → slice_index c i ≡ slice_index d i
