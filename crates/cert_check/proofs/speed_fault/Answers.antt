use Rattle.std.proofs.Common.{◌-◌, arith, inl, inr, refl, slice_index}
use Rattle.std.proofs.lemmas.Int.{ints}
use Rattle.step_rule.specs.Hills.{IsHeld}
use Rattle.cert_check.proofs.speed_fault.Goals as goal

pub returns-then-holds_speed-clause-none : goal.returns-then-holds_speed-clause-none
unfolding IsHeld
returns-then-holds_speed-clause-none g c =
    let up = c.if-holds_speed.ensures.held refl (slice_index c.args.e.now (c.args.point - 1)) (c.requires.before (omega arith) (omega arith)) in
    λ r broken. elim broken [
      | inl b ↦ omega (arith, b.2)
      | inr other ↦ elim other [ inl b ↦ omega (arith, b.2.0) | inr b ↦ let fast = b.2.1 in omega (arith, ints) ]
    ]
