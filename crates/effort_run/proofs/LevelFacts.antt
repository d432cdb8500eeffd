-- Caps of a train whose brakes take the same at each speed up to 60 km/h.
use Rattle.std.proofs.Common.{◌≡◌, ℕ, ◌+◌, ◌<◌, ◌≤◌, ℤ, pos, ◌≤ℤ◌, ◌-ℤ◌, List, length, slice_index, replicate, arith, refl}
use Rattle.std.proofs.lemmas.Int.{ints}
use Rattle.run_rules.specs.Grids.{row, top_of}
use Rattle.run_rules.specs.Runs.{IsBrakingList}
use Rattle.run_rules.specs.StepRules.{low_from}
use Rattle.table_laws.proofs.ToyFacts.{row-toy, squared-toy, top_of-toy}
use Rattle.step_rule.specs.Motion.{Motion, step_rule_of}
use Rattle.step_rule.proofs.BrakeFacts.{fall_from-slowed}
use Rattle.step_rule.proofs.MonotoneFacts.{low_from-le_fall}

-- the brakes take their one value from each squared speed
low-level : (motion : Motion) (pull : ℤ) (u : ℕ) → motion.brake.rows ≡ replicate 61 (pos 25920) → u ≤ 36000000 → low_from motion.push.rows motion.brake.rows motion.moved pull u ≤ℤ (pos u -ℤ pos 25920)
low-level motion pull u brakes small =
    let top = squared-toy (top_of motion.brake.rows) u (top_of-toy motion.brake.rows (pos 25920) (pos 25920) brakes) small in
    let slowed = row-toy motion.brake.rows (pos 25920) (pos 25920) (pos 25920) brakes (omega (arith, ints)) (omega (arith, ints)) in
    let falls = fall_from-slowed motion.brake.rows (pos 25920) u top slowed in
    let low = low_from-le_fall motion.push.rows motion.brake.rows motion.moved pull u in
    omega (arith, ints)

-- so caps that rise by no more than that towards the start are their own braking list
pub IsBrakingList-level : (motion : Motion) (c : List ℕ) → motion.brake.rows ≡ replicate 61 (pos 25920) → ((i : ℕ) → i < length c → slice_index c i ≤ 36000000)
    → ((i : ℕ) → i + 1 < length c → slice_index c i ≤ slice_index c (i + 1) + 25920) → IsBrakingList (step_rule_of motion) c c
IsBrakingList-level motion c brakes small braked = record {
  keeps = record {
    same_points = refl;
    capped = λ i l. omega arith;
    braked = λ i l. let low = low-level motion (row motion.pulls i) (slice_index c i) brakes (small i (omega arith)) in let near = braked i l in omega (arith, ints);
    driven = λ i l. absurd (omega arith);
    moving = λ i l. absurd (omega arith);
  };
  greatest = λ q keeps i l. keeps.capped i l;
}
