-- What the walk back, which makes a braking list, and the walk on, which makes an envelope, say of one point at a time.
-- A walk that begins again inside a line says with these words which of the older numbers stand.
use Rattle.std.specs.Prelude.{◌≡◌, ℕ, ◌+◌, ◌<◌, ◌≤◌, ℤ, pos, ◌≤ℤ◌, ◌⊎◌, List, length, slice_index}
use Rattle.unit_rules.specs.declared.Reach.{Reach}
use Rattle.unit_rules.specs.declared.Reach.TheVariants.{Whole, Stalled}
use Rattle.run_rules.specs.Runs.{IsBrakingList, StepRule}

-- two lists are as long, and agree outside from..=to
pub record AgreeOutside (b c : List ℕ) (from to : ℕ) : Type 0 where
  pub same_points : length b ≡ length c
  pub agrees : (i : ℕ) → (i < from) ⊎ (to < i) → slice_index b i ≡ slice_index c i

-- c has a number for each point of a line of so many cells, none is past `top`, and c, taken as caps, is its own
-- braking list
pub record IsOwnBrakingList (rule : StepRule) (cells top : ℕ) (c : List ℕ) : Type 0 where
  pub points : length c ≡ cells + 1
  pub small : (i : ℕ) → i < length c → slice_index c i ≤ top
  pub list : IsBrakingList rule c c

-- u is the greatest number up to the cap at point i from which the train can brake to what c has at the next point; at
-- the last point the cap alone binds
pub record IsGreatestNumber (rule : StepRule) (x c : List ℕ) (i u : ℕ) : Type 0 where
  pub capped : u ≤ slice_index x i
  pub braked : i + 1 < length x → rule.low i u ≤ℤ pos (slice_index c (i + 1))
  pub greatest : (v : ℕ) → v ≤ slice_index x i → (i + 1 < length x → rule.low i v ≤ℤ pos (slice_index c (i + 1))) → v ≤ u

-- c has that number at point i
abbrev pub IsGreatestAt : StepRule → List ℕ → List ℕ → ℕ → Type 0
IsGreatestAt rule x c i = IsGreatestNumber rule x c i (slice_index c i)

-- w is the greatest number up to the cap and to what full effort gives, and not a standstill after another
pub record IsNext (now : ℕ) (up : ℤ) (cap w : ℕ) : Type 0 where
  pub capped : w ≤ cap
  pub driven : pos w ≤ℤ up
  pub moving : 1 ≤ now + w
  pub greatest : (u : ℕ) → u ≤ cap → pos u ≤ℤ up → u ≤ w

-- there is no such number: each that the cap and full effort allow would be a second standstill
abbrev pub IsBlocked : ℕ → ℤ → ℕ → Type 0
IsBlocked now up cap = (u : ℕ) → u ≤ cap → pos u ≤ℤ up → u + now < 1

-- w is that number after cell i, under the caps c and after what e has at point i
abbrev pub IsNextNumber : StepRule → List ℕ → List ℕ → ℕ → ℕ → Type 0
IsNextNumber rule c e i w = IsNext (slice_index e i) (rule.up i (slice_index e i)) (slice_index c (i + 1)) w

-- there is no such number after cell i
abbrev pub IsBlockedAfter : StepRule → List ℕ → List ℕ → ℕ → Type 0
IsBlockedAfter rule c e i = IsBlocked (slice_index e i) (rule.up i (slice_index e i)) (slice_index c (i + 1))

-- the first n numbers of e are driven as fast as the caps c allow, to the end of the line or to where there is no next
pub record EndsAt (rule : StepRule) (c e : List ℕ) (n : ℕ) : Type 0 where
  pub some : 1 ≤ n
  pub on_line : n ≤ length c
  pub first : slice_index e 0 ≡ slice_index c 0
  pub each : (i : ℕ) → i + 1 < n → IsNextNumber rule c e i (slice_index e (i + 1))
  pub blocked : (i : ℕ) → i + 1 ≡ n → n < length c → IsBlockedAfter rule c e i

-- how many numbers the envelope has on a line of so many points
abbrev pub count_of : ℕ → Reach → ℕ
count_of points Whole = points
count_of points (Stalled k) = k
