-- Hills that a train's push and its brakes make up for.
use Rattle.std.proofs.Common.{◌≡◌, ℕ, ◌+◌, ◌*◌, ◌≤◌, List, ℤ, pos, ◌≤ℤ◌, ◌+ℤ◌, ◌-ℤ◌, arith, min, inl, inr}
use Rattle.std.proofs.lemmas.Bool.{cases_lt}
use Rattle.std.proofs.lemmas.Int.{ints, clamps}
use Rattle.unit_rules.proofs.FloorFacts.{floor_div-at_most, floor_div-mono, floor_div-zero}
use Rattle.run_rules.specs.Grids.{row, value_at}
use Rattle.run_rules.specs.StepRules.{fall_from, low_from, up_from}
use Rattle.step_rule.specs.Hills.{IsGentle, IsHeld}
use Rattle.step_rule.specs.Motion.{IsMotion, Motion, most_of, step_rule_of}
use Rattle.step_rule.specs.Spans.{IsBrakedFrom}
use Rattle.step_rule.proofs.MonotoneFacts.{fall_from-mono, low_from-le_fall}

-- a lesser pull leaves a train more speed
up_from-lesser : (push : List ℤ) (moved : ℕ) (pull less : ℤ) (u : ℕ) → 1 ≤ moved → less ≤ℤ pull → up_from push moved pull u ≤ℤ up_from push moved less u
unfolding up_from
up_from-lesser push moved pull less u some l =
    let f = floor_div-mono (value_at push u -ℤ pull) (value_at push u -ℤ less) moved some (omega (arith, ints)) in
    omega (arith, ints)

pub IsHeld-lesser : (motion : Motion) (pull less : ℤ) → 1 ≤ motion.moved → less ≤ℤ pull → IsHeld motion pull → IsHeld motion less
unfolding IsHeld
IsHeld-lesser motion pull less some l held = λ u h.
    let up = up_from-lesser motion.push.rows motion.moved pull less u some l in
    let holds = held u h in
    omega (arith, ints)

pub IsGentle-lesser : (motion : Motion) (pull less : ℤ) → 1 ≤ motion.moved → less ≤ℤ pull → IsGentle motion pull → IsGentle motion less
unfolding IsGentle
IsGentle-lesser motion pull less some l gentle = λ u h.
    let up = up_from-lesser motion.push.rows motion.moved pull less u some l in
    let slows = gentle u h in
    omega (arith, ints)

-- a pull that no push is less than is held
pub IsHeld-least : (motion : Motion) (least : ℤ) → 1 ≤ motion.moved → ((u : ℕ) → u ≤ most_of motion → least ≤ℤ value_at motion.push.rows u) → IsHeld motion least
unfolding IsHeld up_from
IsHeld-least motion least some each = λ u h.
    let push = each u h in
    let f = floor_div-mono (pos 0) (value_at motion.push.rows u -ℤ least) motion.moved some (omega (arith, ints)) in
    let z = floor_div-zero motion.moved in
    omega (arith, ints)

-- what the least push doesn't make up for of a gentle pull is no more than what the brakes take of the moved mass
pub IsGentle-least : (motion : Motion) (pull least : ℤ) (rate : ℕ) → 1 ≤ motion.moved → pull ≤ℤ (least +ℤ pos (motion.moved * rate))
    → ((u : ℕ) → u ≤ most_of motion → least ≤ℤ value_at motion.push.rows u) → ((u : ℕ) → u ≤ most_of motion → pos rate ≤ℤ value_at motion.brake.rows u) → IsGentle motion pull
unfolding IsGentle up_from fall_from
IsGentle-least motion pull least rate some l each slows = λ u h.
    let push = each u h in
    let brake = slows u h in
    let f = floor_div-at_most (pos 0) (value_at motion.push.rows u -ℤ pull) motion.moved rate some (omega (arith, ints)) in
    let z = floor_div-zero motion.moved in
    omega (arith, ints)

-- on a gentle hill the greatest squared speed from which full brakes end a cell slow enough is the greatest of all
pub low-braked : (motion : Motion) (cell w at most : ℕ) → IsMotion motion → IsBrakedFrom motion w at → (step_rule_of motion).low cell (min at most) ≤ℤ pos w
low-braked motion cell w at most m b =
    let falls = fall_from-mono motion m (min at most) at (omega arith) b.in_range in
    let low = low_from-le_fall motion.push.rows motion.brake.rows motion.moved (row motion.pulls cell) (min at most) in
    let braked = b.braked in
    omega (arith, ints)

pub braked-greatest : (motion : Motion) (cell w at u : ℕ) → IsMotion motion → IsGentle motion (row motion.pulls cell) → IsBrakedFrom motion w at → u ≤ most_of motion → (step_rule_of motion).low cell u ≤ℤ pos w → u ≤ at
unfolding IsGentle low_from
braked-greatest motion cell w at u m gentle b h slow =
    elim (cases_lt at u) [
      | inl l ↦
          let fast = b.too_fast (omega arith) in
          let rises = fall_from-mono motion m (at + 1) u (omega arith) h in
          let slows = gentle u h in
          absurd (omega (arith, ints, clamps))
      | inr s ↦ s
    ]

-- on a gentle hill full brakes alone say how slow a train can be
pub low_from-gentle : (motion : Motion) (pull : ℤ) (u : ℕ) → IsGentle motion pull → u ≤ most_of motion → low_from motion.push.rows motion.brake.rows motion.moved pull u ≡ fall_from motion.brake.rows u
unfolding IsGentle low_from
low_from-gentle motion pull u gentle h = let slows = gentle u h in omega (arith, ints, clamps)
