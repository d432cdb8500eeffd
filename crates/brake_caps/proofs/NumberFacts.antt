-- The greatest number at one point.
use Rattle.std.proofs.Common.{◌≡◌, ℕ, ◌+◌, ◌<◌, ◌≤◌, pos, ◌≤ℤ◌, List, length, slice_index, arith}
use Rattle.run_rules.specs.Runs.{StepRule}
use Rattle.run_rules.specs.Walks.{IsGreatestNumber}

-- the cap itself, at the last point or where the train can brake from it
pub IsGreatestNumber-cap : (rule : StepRule) (x c : List ℕ) (i cap : ℕ) → cap ≡ slice_index x i → (i + 1 < length x → rule.low i cap ≤ℤ pos (slice_index c (i + 1))) → IsGreatestNumber rule x c i cap
IsGreatestNumber-cap rule x c i cap same brakes = record { capped = omega arith; braked = brakes; greatest = λ v h f. omega arith }

-- before the last point, the greatest number up to the cap that brakes to the next
pub IsGreatestNumber-below : (rule : StepRule) (x c : List ℕ) (i cap next u : ℕ) → u ≤ cap → rule.low i u ≤ℤ pos next → ((v : ℕ) → v ≤ cap → rule.low i v ≤ℤ pos next → v ≤ u)
    → cap ≡ slice_index x i → next ≡ slice_index c (i + 1) → i + 1 < length x → IsGreatestNumber rule x c i u
IsGreatestNumber-below rule x c i cap next u most brakes greatest same follows on = record {
  capped = omega arith;
  braked = λ l. rw (← follows) brakes;
  greatest = λ v h f. greatest v (omega arith) (rw follows (f on));
}
