-- A span that is halved, and what is left of it in the end.
use Rattle.std.proofs.Common.{◌≡◌, ℕ, ◌+◌, ◌-◌, ◌*◌, ◌/◌, ◌^◌, ◌<◌, ◌≤◌, ◌⊎◌, pos, ◌≤ℤ◌, ◌<ℤ◌, arith, mul-le-mul_right, pow-suc, add-one, inl, inr}
use Rattle.std.proofs.lemmas.Bool.{cases_lt}
use Rattle.std.proofs.lemmas.Int.{ints}
use Rattle.std.proofs.Math.Nat.{pow-le-pow_right}
use Rattle.run_rules.specs.Grids.{row}
use Rattle.run_rules.specs.Runs.{IsMonotone, StepRule}
use Rattle.run_rules.specs.StepRules.{fall_from}
use Rattle.run_rules.proofs.SpeedFacts.{squared-500, squared-mono}
use Rattle.step_rule.specs.Motion.{IsMotion, Motion, kmh_of, most_of, step_rule_of}
use Rattle.step_rule.specs.Spans.{IsBrakedFrom, IsSpan}
use Rattle.step_rule.proofs.MonotoneFacts.{fall_from-mono, low_from-le_fall}

-- half a gap, after one halving more
pub gap-halved : (gap half taken all : ℕ) → 2 * half ≤ gap → gap * 2 ^ taken ≤ all → half * 2 ^ (taken + 1) ≤ all
gap-halved gap half taken all l b =
    let p : 2 * half * 2 ^ taken ≤ gap * 2 ^ taken = mul-le-mul_right (2 ^ taken) l in
    let e : 2 ^ (taken + 1) ≡ 2 ^ taken * 2 = rw add-one (pow-suc 2 taken) in
    rw e (omega arith)

-- a gap below 2^n that is still open was halved less than n times
pub halvings-few : (gap taken all n : ℕ) → 1 ≤ gap → gap * 2 ^ taken ≤ all → all < 2 ^ n → taken < n
halvings-few gap taken all n l b s =
    elim (cases_lt taken n) [
      | inl h ↦ h
      | inr h ↦
          let p : 2 ^ n ≤ 2 ^ taken = pow-le-pow_right (omega arith) h in
          let q : 1 * 2 ^ taken ≤ gap * 2 ^ taken = mul-le-mul_right (2 ^ taken) l in
          absurd (omega arith)
    ]

-- what a span keeps on either side of its middle
pub record IsHalf (at past from to : ℕ) : Type 0 where
  pub from_at : at ≤ from
  pub to_past : to ≤ past
  pub half : 2 * (to - from - 1) ≤ past - at - 1

pub IsHalf-side : (at past from to : ℕ) → 1 < past - at → ((from ≡ at + (past - at) / 2) × (to ≡ past)) ⊎ ((from ≡ at) × (to ≡ at + (past - at) / 2)) → IsHalf at past from to
IsHalf-side at past from to open_still side =
    elim side [
      | inl s ↦ let f = s.0 in let t = s.1 in record { from_at = omega arith; to_past = omega arith; half = omega arith }
      | inr s ↦ let f = s.0 in let t = s.1 in record { from_at = omega arith; to_past = omega arith; half = omega arith }
    ]

-- no greater squared speed than one that is just before too fast is slow enough
pub IsSpan-greatest : (rule : StepRule) (cells top cell w at u : ℕ) → IsMonotone rule cells top → cell < cells → IsSpan rule cell w at (at + 1) → u ≤ top → rule.low cell u ≤ℤ pos w → u ≤ at
IsSpan-greatest rule cells top cell w at u mono on span h b =
    elim (cases_lt at u) [
      | inl l ↦
          let rises = mono.low_rises cell (at + 1) u on (omega arith) h in
          let fast = span.too_fast in
          absurd (omega (arith, ints))
      | inr g ↦ g
    ]

-- a train that stands brakes to any speed, so a span begins at 0
pub IsSpan-zero : (rule : StepRule) (cells top cell w past : ℕ) → IsMonotone rule cells top → cell < cells → pos w <ℤ rule.low cell past → IsSpan rule cell w 0 past
IsSpan-zero rule cells top cell w past mono on fast =
    let stops = mono.stops cell on in
    elim (cases_lt 0 past) [
      | inl l ↦ record { apart = l; braked = omega (arith, ints); too_fast = fast }
      | inr g ↦ let e : past ≡ 0 = omega arith in let f = rw e at fast in absurd (omega (arith, ints))
    ]

-- no squared speed of a rule has more than 32 bits
pub most_of-le : (motion : Motion) → IsMotion motion → most_of motion ≤ 2500000000
most_of-le motion m = let few = m.push_lawful.in_range.few in let s = squared-mono (kmh_of motion) 500 (omega arith) in let e = squared-500 in omega arith

-- a search can begin where full brakes end the cell
pub IsSpan-guessed : (motion : Motion) (cell w at past : ℕ) → IsMotion motion → IsBrakedFrom motion w at → past ≤ most_of motion → pos w <ℤ (step_rule_of motion).low cell past → IsSpan (step_rule_of motion) cell w at past
IsSpan-guessed motion cell w at past m b h fast =
    let pull = row motion.pulls cell in
    let low_at = low_from-le_fall motion.push.rows motion.brake.rows motion.moved pull at in
    let low_past = low_from-le_fall motion.push.rows motion.brake.rows motion.moved pull past in
    let braked = b.braked in
    let in_range = b.in_range in
    elim (cases_lt at past) [
      | inl l ↦ record { apart = l; braked = omega (arith, ints); too_fast = fast }
      | inr g ↦ let rises = fall_from-mono motion m past at g in_range in absurd (omega (arith, ints))
    ]

-- and it ends there too, where full brakes end the cell slow enough from its answer
pub guessed-same : (motion : Motion) (w at answer : ℕ) → IsMotion motion → IsBrakedFrom motion w at → at ≤ answer → answer ≤ most_of motion → fall_from motion.brake.rows answer ≤ℤ pos w → answer ≡ at
guessed-same motion w at answer m b h k slow =
    elim (cases_lt at answer) [
      | inl l ↦
          let rises = fall_from-mono motion m (at + 1) answer (omega arith) k in
          let fast = b.too_fast (omega arith) in
          absurd (omega (arith, ints))
      | inr g ↦ omega arith
    ]
