-- How far the walk on says that a train gets, and where two envelopes agree.
use Rattle.std.specs.Prelude.{◌≡◌, ℕ, ◌<◌, ◌≤◌, List, length, if◌then◌else◌, nat_lt}
use Rattle.unit_rules.specs.Known.{AgreeAt}
use Rattle.unit_rules.specs.declared.Reach.{Reach}
use Rattle.unit_rules.specs.declared.Reach.TheVariants.{Whole, Stalled}
use Rattle.run_rules.specs.Runs.{IsBrakingList, IsMonotone, IsRun, IsStalled, ReachesAs, StepRule}
use Rattle.run_rules.specs.Walks.{AgreeOutside, IsOwnBrakingList, count_of}

-- the reach of an envelope with so many numbers, on a line of so many points
abbrev pub reach_of : ℕ → ℕ → Reach
reach_of points n = if nat_lt n points then Stalled n else Whole

-- under the caps x there is a run, and no stall; or the train is stalled at k and nowhere else, and there is no run
abbrev pub IsOnlyReach : StepRule → List ℕ → Reach → Type 0
IsOnlyReach rule x Whole = ((q : List ℕ) × IsRun rule x q) × ((k : ℕ) → IsStalled rule x k → ⊥)
IsOnlyReach rule x (Stalled k) =
    IsStalled rule x k × ((j : ℕ) → IsStalled rule x j → j ≡ k) × ((q : List ℕ) → IsRun rule x q → ⊥)

-- under all caps of which c is the braking list, e holds the envelope up to that reach
abbrev pub ReachesUnderCaps : StepRule → List ℕ → List ℕ → Reach → Type 0
ReachesUnderCaps rule c e reach = (x : List ℕ) → IsBrakingList rule x c → ReachesAs rule x e reach

-- c is its own braking list, e has a number for each of its points, and the first n are the envelope under c
pub record HoldsEnvelope (rule : StepRule) (cells top : ℕ) (c e : List ℕ) (n : ℕ) : Type 0 where
  pub brakes : IsOwnBrakingList rule cells top c
  pub same_points : length e ≡ length c
  pub reaches : (reach : Reach) × ReachesAs rule c e reach × (count_of (length c) reach ≡ n)

-- where braking lists agree outside from..=to, the envelopes under them agree before `from`
abbrev pub EnvelopesAgreeBefore : Type 0
EnvelopesAgreeBefore = (rule : StepRule) (cells top from to : ℕ) (b c d e : List ℕ) (n m : ℕ)
    → IsMonotone rule cells top → AgreeOutside b c from to
    → HoldsEnvelope rule cells top b d n → HoldsEnvelope rule cells top c e m
    → (i : ℕ) → i < from → AgreeAt d n e m i

-- and where the envelopes agree at a point from `to` on, they agree at every later point
abbrev pub EnvelopesAgreeAfter : Type 0
EnvelopesAgreeAfter = (rule : StepRule) (cells top from to : ℕ) (b c d e : List ℕ) (n m : ℕ)
    → IsMonotone rule cells top → AgreeOutside b c from to
    → HoldsEnvelope rule cells top b d n → HoldsEnvelope rule cells top c e m
    → (i j : ℕ) → to ≤ i → i ≤ j → AgreeAt d n e m i → AgreeAt d n e m j
