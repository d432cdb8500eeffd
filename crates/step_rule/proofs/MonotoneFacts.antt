-- Neither bound of a step rule falls as the speed rises.
use Rattle.std.proofs.Common.{◌≡◌, ℕ, zero, suc, ◌+◌, ◌-◌, ◌≤◌, ℤ, pos, ◌≤ℤ◌, ◌<ℤ◌, ◌-ℤ◌, List, arith, subst, sym}
use Rattle.std.proofs.lemmas.Int.{ints, clamps}
use Rattle.unit_rules.proofs.FloorFacts.{floor_div-at_most}
use Rattle.run_rules.specs.Grids.{row, top_of, value_at}
use Rattle.run_rules.specs.Runs.{IsMonotone}
use Rattle.run_rules.specs.Speeds.{squared}
use Rattle.run_rules.specs.StepRules.{fall_from, low_from, up_from}
use Rattle.run_rules.proofs.GridFacts.{value_at-zero}
use Rattle.table_laws.specs.Laws.{KeepsLaw, moves_within}
use Rattle.table_laws.specs.declared.Law.TheVariants.{Climb, Drop}
use Rattle.table_laws.proofs.LawFacts.{value_at-keeps}
use Rattle.step_rule.specs.Motion.{IsMotion, Motion, cells_of, most_of, step_rule_of}

-- from one squared speed to the next
up_from-next : (push : List ℤ) (moved : ℕ) (pull : ℤ) (u : ℕ) → 1 ≤ moved → KeepsLaw (Drop moved) push → u + 1 ≤ squared (top_of push) → up_from push moved pull u ≤ℤ up_from push moved pull (u + 1)
unfolding up_from moves_within
up_from-next push moved pull u s l h =
    let drops = value_at-keeps (Drop moved) push l u (omega arith) in
    let f = floor_div-at_most (value_at push u -ℤ pull) (value_at push (u + 1) -ℤ pull) moved 1 s (omega (arith, ints)) in
    omega (arith, ints)

fall_from-next : (brake : List ℤ) (u : ℕ) → KeepsLaw Climb brake → u + 1 ≤ squared (top_of brake) → fall_from brake u ≤ℤ fall_from brake (u + 1)
unfolding fall_from moves_within
fall_from-next brake u l h = let climbs = value_at-keeps Climb brake l u (omega arith) in omega (arith, ints)

-- what doesn't fall from one number to the next doesn't fall from one to any further one
rises_by : (f : ℕ → ℤ) (most : ℕ) → ((u : ℕ) → u + 1 ≤ most → f u ≤ℤ f (u + 1)) → (u n : ℕ) → u + n ≤ most → f u ≤ℤ f (u + n)
rises_by f most next u zero h = let e : u + zero ≡ u = omega arith in rw e (omega (arith, ints))
rises_by f most next u (suc n) h =
    let before = rises_by f most next u n (omega arith) in
    let last = next (u + n) (omega arith) in
    let e : u + suc n ≡ u + n + 1 = omega arith in
    rw e (omega (arith, ints))

rises : (f : ℕ → ℤ) (most : ℕ) → ((u : ℕ) → u + 1 ≤ most → f u ≤ℤ f (u + 1)) → (u v : ℕ) → u ≤ v → v ≤ most → f u ≤ℤ f v
rises f most next u v h k = let e : u + (v - u) ≡ v = omega arith in subst (λ n. f u ≤ℤ f n) e (rises_by f most next u (v - u) (omega arith))

pub up_from-mono : (motion : Motion) → IsMotion motion → (pull : ℤ) (u v : ℕ) → u ≤ v → v ≤ most_of motion → up_from motion.push.rows motion.moved pull u ≤ℤ up_from motion.push.rows motion.moved pull v
up_from-mono motion m pull =
    let lawful = subst (λ law. KeepsLaw law motion.push.rows) m.push_law m.push_lawful.lawful in
    rises (up_from motion.push.rows motion.moved pull) (most_of motion) (λ u h. up_from-next motion.push.rows motion.moved pull u m.moved_least lawful h)

pub fall_from-mono : (motion : Motion) → IsMotion motion → (u v : ℕ) → u ≤ v → v ≤ most_of motion → fall_from motion.brake.rows u ≤ℤ fall_from motion.brake.rows v
fall_from-mono motion m =
    let lawful = subst (λ law. KeepsLaw law motion.brake.rows) m.brake_law m.brake_lawful.lawful in
    rises (fall_from motion.brake.rows) (most_of motion) (λ u h. fall_from-next motion.brake.rows u lawful (subst (λ k. u + 1 ≤ squared k) (sym m.tops) h))

-- the less of the two
pub low_from-mono : (motion : Motion) → IsMotion motion → (pull : ℤ) (u v : ℕ) → u ≤ v → v ≤ most_of motion
    → low_from motion.push.rows motion.brake.rows motion.moved pull u ≤ℤ low_from motion.push.rows motion.brake.rows motion.moved pull v
unfolding low_from
low_from-mono motion m pull u v h k =
    let ups = up_from-mono motion m pull u v h k in
    let falls = fall_from-mono motion m u v h k in
    omega (arith, ints, clamps)

low_from-le : (push brake : List ℤ) (moved : ℕ) (pull : ℤ) (u : ℕ) → low_from push brake moved pull u ≤ℤ up_from push moved pull u
unfolding low_from
low_from-le push brake moved pull u = omega (arith, ints, clamps)

pub low_from-le_fall : (push brake : List ℤ) (moved : ℕ) (pull : ℤ) (u : ℕ) → low_from push brake moved pull u ≤ℤ fall_from brake u
unfolding low_from
low_from-le_fall push brake moved pull u = omega (arith, ints, clamps)

-- brakes hold a train that stands
low_from-zero : (push brake : List ℤ) (moved : ℕ) (pull : ℤ) → pos 12960 ≤ℤ row brake 0 → low_from push brake moved pull 0 <ℤ pos 0
unfolding low_from fall_from
low_from-zero push brake moved pull h = let e = value_at-zero brake in omega (arith, ints, clamps)

pub step_rule-monotone : (motion : Motion) → IsMotion motion → IsMonotone (step_rule_of motion) (cells_of motion) (most_of motion)
step_rule-monotone motion m = record {
  up_rises = λ cell u v l. up_from-mono motion m (row motion.pulls cell) u v;
  low_rises = λ cell u v l. low_from-mono motion m (row motion.pulls cell) u v;
  low_le_up = λ cell u l h. low_from-le motion.push.rows motion.brake.rows motion.moved (row motion.pulls cell) u;
  stops = λ cell l. low_from-zero motion.push.rows motion.brake.rows motion.moved (row motion.pulls cell) (m.brakes 0 (omega arith));
}
