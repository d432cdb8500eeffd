use Rattle.std.proofs.Common.{arith, sym}
use Rattle.std.proofs.lemmas.Int.{ints}
use Rattle.train_mean.proofs.GradientFacts.{gradient_at-first}
use Rattle.train_mean.proofs.gradient_in.Goals as goal

pub returns-else-first-cell-clause-passes : goal.returns-else-first-cell-clause-passes
returns-else-first-cell-clause-passes c =
    record {
      steady = λ cell h k. sym (gradient_at-first c.args.slopes.now cell c.in-Some.first.now c.in-Some.ensures.value c.requires.slopes k);
      least = omega (arith, ints);
      most = omega (arith, ints);
    }
