-- Runs of a train over a line, as lists of squared speeds by point. These definitions know a step rule alone, and
-- nothing of how it is made; none of them has a pass over the points or a search in it.
use Rattle.std.specs.Prelude.{◌≡◌, ℕ, ◌+◌, ◌-◌, ◌<◌, ◌≤◌, ℤ, pos, ◌≤ℤ◌, ◌<ℤ◌, List, length, slice_index, take}
use Rattle.unit_rules.specs.declared.Reach.{Reach}
use Rattle.unit_rules.specs.declared.Reach.TheVariants.{Whole, Stalled}

-- a step rule: from squared speed u before a cell, the greatest and the least after it
pub record StepRule : Type 0 where
  pub up : ℕ → ℕ → ℤ
  pub low : ℕ → ℕ → ℤ

-- up to the squared speed `top` neither bound falls as the speed rises, the least is at most the greatest, and a train
-- that stands can stay standing
pub record IsMonotone (rule : StepRule) (cells top : ℕ) : Type 0 where
  pub up_rises : (i u v : ℕ) → i < cells → u ≤ v → v ≤ top → rule.up i u ≤ℤ rule.up i v
  pub low_rises : (i u v : ℕ) → i < cells → u ≤ v → v ≤ top → rule.low i u ≤ℤ rule.low i v
  pub low_le_up : (i u : ℕ) → i < cells → u ≤ top → rule.low i u ≤ℤ rule.up i u
  pub stops : (i : ℕ) → i < cells → rule.low i 0 <ℤ pos 0

-- q is under the caps x and brakes by the rule over the whole line; on the cells before point k it is also driven by
-- the rule, and doesn't stand at two neighbours
pub record Keeps (rule : StepRule) (x q : List ℕ) (k : ℕ) : Type 0 where
  pub same_points : length q ≡ length x
  pub capped : (i : ℕ) → i < length x → slice_index q i ≤ slice_index x i
  pub braked : (i : ℕ) → i + 1 < length x → rule.low i (slice_index q i) ≤ℤ pos (slice_index q (i + 1))
  pub driven : (i : ℕ) → i < k → pos (slice_index q (i + 1)) ≤ℤ rule.up i (slice_index q i)
  pub moving : (i : ℕ) → i < k → 1 ≤ slice_index q i + slice_index q (i + 1)

-- at each of the first n points, a is at most b
abbrev pub AtMost : List ℕ → List ℕ → ℕ → Type 0
AtMost a b n = (i : ℕ) → i < n → slice_index a i ≤ slice_index b i

-- a run obeys the rule over the whole line
abbrev pub IsRun : StepRule → List ℕ → List ℕ → Type 0
IsRun rule x q = Keeps rule x q (length x - 1)

-- e is a run, and no run is faster at any point
pub record IsGreatestRun (rule : StepRule) (x e : List ℕ) : Type 0 where
  pub run : IsRun rule x e
  pub greatest : (q : List ℕ) → IsRun rule x q → AtMost q e (length x)

-- the braking list: the greatest list under the caps from which the train can still brake for all that is ahead
pub record IsBrakingList (rule : StepRule) (x c : List ℕ) : Type 0 where
  pub keeps : Keeps rule x c 0
  pub greatest : (q : List ℕ) → Keeps rule x q 0 → AtMost q c (length x)

-- the train is stalled at k: no train that can still brake for all that is ahead gets to point k, and some such train
-- gets to the point before
pub record IsStalled (rule : StepRule) (x : List ℕ) (k : ℕ) : Type 0 where
  pub on_line : (1 ≤ k) × (k < length x)
  pub none : (q : List ℕ) → Keeps rule x q k → ⊥
  pub some : (q : List ℕ) × Keeps rule x q (k - 1)

-- the envelope up to a stall at k: the first k numbers of a list that gets to the point before, of which no such list
-- has a greater one
pub record IsEnvelopeTo (rule : StepRule) (x e : List ℕ) (k : ℕ) : Type 0 where
  pub long : length e ≡ k
  pub starts : (q : List ℕ) × (take k q ≡ e) × Keeps rule x q (k - 1)
  pub greatest : (q : List ℕ) → Keeps rule x q (k - 1) → AtMost q e k

-- e holds the envelope under the caps x, up to the end of the line or its stall
abbrev pub ReachesAs : StepRule → List ℕ → List ℕ → Reach → Type 0
ReachesAs rule x e Whole = IsGreatestRun rule x e
ReachesAs rule x e (Stalled k) = IsStalled rule x k × IsEnvelopeTo rule x (take k e) k
