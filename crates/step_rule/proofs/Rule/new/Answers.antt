use Rattle.std.proofs.Common.{◌≡◌, ◌≤◌, arith, rules, SFits, w64, pos, sym, subst, unsigned_abs}
use Rattle.std.proofs.lemmas.Int.{ints, clamps, to_z-of_z}
use Rattle.run_rules.specs.Speeds.{squared}
use Rattle.run_rules.proofs.GridFacts.{value_at-least}
use Rattle.step_rule.specs.Motion.{Motion}
use Rattle.step_rule.proofs.HillFacts.{IsGentle-least, IsHeld-least}
use Rattle.step_rule.proofs.Rule.new.Goals as goal

pub overflow_cast-rate : goal.overflow_cast-rate
overflow_cast-rate c = omega (arith, ints, clamps)

pub invariant_of-result : goal.invariant_of-result
invariant_of-result c =
    let held_fits : SFits w64 c.least-held.result = omega (arith, ints) in
    let least_fits : SFits w64 c.least.result = omega (arith, ints) in
    let rate_fits : SFits w64 c.min-rate.result = omega (arith, ints, clamps) in
    let gentle_fits : SFits w64 c.gentle_pull.result = omega (arith, ints) in
    let made = simp to_z-of_z at c.gentle_pull.ensures in
    let mass : c.new.result ≡ c.args.moved = omega arith in
    let motion : Motion = record { push = c.args.push; brake = c.args.brake; moved = c.args.moved; pulls = c.args.pulls.items } in
    simp to_z-of_z (record {
      moves = search rules;
      held = rw mass (IsHeld-least motion c.least-held.result c.requires.moved_least c.least-held.ensures.least);
      gentle = rw mass (IsGentle-least motion c.gentle_pull.result c.least-held.result (unsigned_abs c.min-rate.result) c.requires.moved_least (omega (arith, ints)) c.least-held.ensures.least
          (λ u h.
          let on : u ≤ squared _ = subst (λ k. u ≤ squared k) (sym c.requires.tops) h in
          let least = c.least.ensures.least u on in
          let brakes = value_at-least c.args.brake.rows (pos 12960) u on c.requires.brakes in
          omega (arith, ints, clamps)));
    })
