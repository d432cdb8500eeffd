use Rattle.std.proofs.Common.{arith, inl, inr}
use Rattle.std.proofs.lemmas.Bool.{cases_lt}
use Rattle.limit_profile.specs.declared.breaks.Break.{Break}
use Rattle.limit_profile.proofs.CountFacts.{binds-there}
use Rattle.limit_profile.proofs.changes.is_hidden.Goals as goal

pub loop-point-preserved : goal.loop-point-preserved
loop-point-preserved c =
    let none : Break = record { at = 0; most = 0 } in
    let at = c.break_from-index.ensures.last none in
    record {
      bound = c.break_from-index.ensures.bound;
      before = λ d. omega (arith, c.break_from-index.ensures.last d, c.held_piece-held.ensures.past);
      below = λ f e i l m. elim (cases_lt i c.loop-point.point) [
        | inl n ↦ c.loop-point.invariant.below f e i l n
        | inr n ↦ rw ((c.held_piece-held.ensures.piece f none e).same i (omega (arith, at)) m) (omega (arith, c.squared.ensures, c.if-squared-held.false))
      ];
    }

pub returns : goal.returns
returns c = λ e f listed i b.
    let there = binds-there c.args.course.length c.args.course.train i c.args.zone b in
    c.loop-point.invariant.below f listed i there.0 (omega (arith, there.1, c.released-end.ensures, c.loop-point-test.false))
