use Rattle.std.proofs.Common.{◌==◌, arith}
use Rattle.unit_rules.specs.declared.Bound.{Bound}
use Rattle.limit_profile.proofs.KeepFacts.{kept-drop}
use Rattle.limit_profile.proofs.bounds_stretch.Goals as goal

pub loop-bound-preserved : goal.loop-bound-preserved
loop-bound-preserved c = record {
  from = omega arith;
  to = omega arith;
  same = λ i l h rest.
      let e = c.bound_stretch-stretch.ensures.same i (omega arith) (omega arith) in
      c.loop-bound.invariant.same i (omega arith) (omega arith) (kept-drop (λ (b : Bound). b.most) (λ (b : Bound). b.at == i) (λ (b : Bound). b.at == c.args.point) c.args.bounds.now c.loop-bound.bound-index (record { at = 0; most = 0 }) c.loop-bound-test.true e rest);
}
