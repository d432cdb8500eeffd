-- The step rule of a train, and the caps of its limits.
use Rattle.std.proofs.Common.{◌≡◌, ℕ, ◌-◌, ◌<◌, ◌≤◌, pos, ◌≤ℤ◌, ap, arith, List, length, slice_index}
use Rattle.std.proofs.lemmas.Int.{ints}
use Rattle.run_rules.specs.Grids.{row}
use Rattle.run_rules.specs.Runs.{IsMonotone}
use Rattle.run_rules.specs.Speeds.{squared}
use Rattle.limit_profile.specs.Profile.{Profile, cap, caps}
use Rattle.limit_profile.proofs.CapFacts.{cap-le, length-caps, slice_index-caps}
use Rattle.step_rule.specs.Motion.{IsMotion, Motion, cells_of, kmh_of, most_of, step_rule_of}
use Rattle.cert_check.specs.Faults.{KeepsAll}
use Rattle.cert_check.specs.Rules.{BreaksPointRule}
use Rattle.cert_check.proofs.RuleFacts.{IsCapped, below_braking, below_cap}
use Rattle.step_rule.proofs.BrakeFacts.{fall_from-le}
use Rattle.step_rule.proofs.MonotoneFacts.{low_from-le_fall}

-- the caps of limits with the same top speed are in the range of the rule
pub IsCapped-caps : (motion : Motion) (limits : Profile) → IsMonotone (step_rule_of motion) (cells_of motion) (most_of motion) → limits.length ≡ cells_of motion → limits.top ≡ kmh_of motion
    → IsCapped (step_rule_of motion) (caps limits) (most_of motion)
IsCapped-caps motion limits mono same_length same_top =
    let long = length-caps limits in
    let cells : cells_of motion ≡ length (caps limits) - 1 = omega arith in
    record {
      mono = rw cells at mono;
      small = λ i l.
          let listed = slice_index-caps limits i (omega arith) in
          let most : cap limits i ≤ squared limits.top = cap-le limits i in
          let top : squared limits.top ≡ most_of motion = ap squared same_top in
          omega arith;
      some = omega arith;
    }

-- where no rule is broken at a point, its speed is in the range of the rule
pub speed-le : (motion : Motion) (limits : Profile) (c e : List ℕ) (i : ℕ) → IsCapped (step_rule_of motion) (caps limits) (most_of motion) → i < length e → i < length (caps limits)
    → KeepsAll (BreaksPointRule (step_rule_of motion) (caps limits) c e i) → slice_index e i ≤ most_of motion
speed-le motion limits c e i caps_small l on kept =
    let cap = below_cap (step_rule_of motion) (caps limits) c e i kept on in
    let speed = below_braking (step_rule_of motion) (caps limits) c e i kept l in
    let small = caps_small.small i on in
    omega arith
