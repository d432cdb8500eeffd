-- The rules that a certificate keeps, by what breaks each. A certificate claims that under the caps x a train has the
-- braking list c and the envelope e, and gets as far as its verdict says. Each rule looks at one point and its
-- neighbours, and none of them says "greatest".
use Rattle.std.specs.Prelude.{◌≡◌, ◌≢◌, ℕ, ◌+◌, ◌-◌, ◌<◌, ◌≤◌, pos, ◌≤ℤ◌, ◌<ℤ◌, ◌⊎◌, List, length, slice_index}
use Rattle.std.specs.Int.{int_min}
use Rattle.unit_rules.specs.declared.Reach.{Reach}
use Rattle.unit_rules.specs.declared.Reach.TheVariants.{Whole, Stalled}
use Rattle.run_rules.specs.Runs.{StepRule}

-- rule 1: c hasn't a number for each point, or e has more
abbrev pub HasOtherPoints : List ℕ → List ℕ → List ℕ → Type 0
HasOtherPoints x c e = (length c ≢ length x) ⊎ (length x < length e)

-- rule 2: the braking number is above the cap
abbrev pub IsAboveCap : List ℕ → List ℕ → ℕ → Type 0
IsAboveCap x c i = slice_index x i < slice_index c i

-- from squared speed u at point i the train can brake to the next braking number, if there is one
abbrev pub CanBrake : StepRule → List ℕ → ℕ → ℕ → Type 0
CanBrake rule c i u = i + 1 < length c → rule.low i u ≤ℤ pos (slice_index c (i + 1))

-- rule 3: it is below the cap, though the train can brake from one more
abbrev pub BrakesEarly : StepRule → List ℕ → List ℕ → ℕ → Type 0
BrakesEarly rule x c i = (slice_index c i < slice_index x i) × CanBrake rule c i (slice_index c i + 1)

-- rule 4: the speed is above the braking number
abbrev pub IsAboveBraking : List ℕ → List ℕ → ℕ → Type 0
IsAboveBraking c e i = slice_index c i < slice_index e i

-- rule 5: it is below the braking number, at the first point or where it is below what full effort gives
abbrev pub FallsShort : StepRule → List ℕ → List ℕ → ℕ → Type 0
FallsShort rule c e i = (slice_index e i < slice_index c i)
    × ((i ≡ 0) ⊎ (pos (slice_index e i) <ℤ rule.up (i - 1) (slice_index e (i - 1))))

-- rule 6: it is above what full effort gives
abbrev pub Outruns : StepRule → List ℕ → ℕ → Type 0
Outruns rule e i = (1 ≤ i) × (rule.up (i - 1) (slice_index e (i - 1)) <ℤ pos (slice_index e i))

-- rule 7: from the braking number the train can't brake to the next
abbrev pub BrakesLate : StepRule → List ℕ → ℕ → Type 0
BrakesLate rule c i = CanBrake rule c i (slice_index c i) → ⊥

-- rule 8: the train stands at the point before and at this one
abbrev pub StandsTwice : List ℕ → ℕ → Type 0
StandsTwice e i = (1 ≤ i) × (slice_index e (i - 1) ≡ 0) × (slice_index e i ≡ 0)

-- of the rules 4 to 6, rule r is broken at point i, where e has a number
abbrev pub BreaksSpeedRule : StepRule → List ℕ → List ℕ → ℕ → ℕ → Type 0
BreaksSpeedRule rule c e i r =
    ((r ≡ 4) × (i < length e) × IsAboveBraking c e i)
    ⊎ ((r ≡ 5) × (i < length e) × FallsShort rule c e i)
    ⊎ ((r ≡ 6) × (i < length e) × Outruns rule e i)

-- of the rules 2 to 8, rule r is broken at point i
abbrev pub BreaksPointRule : StepRule → List ℕ → List ℕ → List ℕ → ℕ → ℕ → Type 0
BreaksPointRule rule x c e i r =
    ((r ≡ 2) × (i < length x) × IsAboveCap x c i)
    ⊎ ((r ≡ 3) × (i < length x) × BrakesEarly rule x c i)
    ⊎ BreaksSpeedRule rule c e i r
    ⊎ ((r ≡ 7) × (i < length x) × BrakesLate rule c i)
    ⊎ ((r ≡ 8) × (i < length e) × StandsTwice e i)

-- what shows a stall at point k of so many points: the speeds end just before it, and there even full effort is too
-- weak, or the train stands and can't move
pub record ShowsStall (rule : StepRule) (points : ℕ) (c e : List ℕ) (k : ℕ) : Type 0 where
  pub on_line : (1 ≤ k) × (k < points)
  pub long : length e ≡ k
  pub blocked : (rule.up (k - 1) (slice_index e (k - 1)) <ℤ pos 0)
      ⊎ ((slice_index e (k - 1) ≡ 0) × (int_min (pos (slice_index c k)) (rule.up (k - 1) 0) ≡ pos 0))

-- rule 9: the verdict isn't shown, of a whole run at the last point and of a stall where it is said to be
abbrev pub EndsElsewhere : StepRule → ℕ → List ℕ → List ℕ → Reach → ℕ → Type 0
EndsElsewhere rule points c e Whole i = (i + 1 ≡ points) × (length e ≢ points)
EndsElsewhere rule points c e (Stalled k) i = (i ≡ k) × (ShowsStall rule points c e k → ⊥)

-- rule r is broken at point i
abbrev pub BreaksRule : StepRule → List ℕ → List ℕ → List ℕ → Reach → ℕ → ℕ → Type 0
BreaksRule rule x c e verdict i r =
    ((r ≡ 1) × (i ≡ 0) × HasOtherPoints x c e)
    ⊎ BreaksPointRule rule x c e i r
    ⊎ ((r ≡ 9) × EndsElsewhere rule (length x) c e verdict i)

-- a certificate breaks no rule at any point
unfoldable pub IsCertified : StepRule → List ℕ → List ℕ → List ℕ → Reach → Type 0
IsCertified rule x c e verdict = (i r : ℕ) → BreaksRule rule x c e verdict i r → ⊥
