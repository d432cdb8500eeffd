use Rattle.std.proofs.Common.{◌≤ℤ◌, ◌<ℤ◌, SFits, pos, arith, subst, sym}
use Rattle.std.specs.Int.{w64}
use Rattle.std.proofs.lemmas.Int.{ints, to_z-of_z}
use Rattle.run_rules.specs.StepRules.{IsPull}
use Rattle.train_mean.proofs.PullFacts.{IsPull-pull_of, pull-above, pull-above_is, pull-below}
use Rattle.train_mean.proofs.pull.Goals as goal

pub overflow_cast-result-else-sum-lt0 : goal.overflow_cast-result-else-sum-lt0
overflow_cast-result-else-sum-lt0 c =
    let fits : SFits w64 c.args.sum = omega (arith, ints) in
    let above : pos 0 ≤ℤ c.args.sum = omega (arith, ints) in
    let small = pull-above c.args.mass c.args.train c.args.sum c.unsigned_abs.result c.requires.mass c.requires.train_least
    (record { least = c.requires.least; most = c.requires.most }) above (simp to_z-of_z at c.unsigned_abs.ensures.value) in
    let q = rw c.requires.divisor at c.quotient_up.ensures in
    omega (arith, ints, small, q)

pub returns-then-sum-lt0-clause-pull : goal.returns-then-sum-lt0-clause-pull
returns-then-sum-lt0-clause-pull c =
    let fits : SFits w64 c.args.sum = omega (arith, ints) in
    let below : c.args.sum <ℤ pos 0 = omega (arith, ints) in
    let q = rw c.requires.divisor at c.quotient.ensures.quotient in
    rw q (pull-below c.args.mass c.args.train c.args.sum c.unsigned_abs.result c.requires.mass (record { least = c.requires.least; most = c.requires.most }) below
    (simp to_z-of_z at c.unsigned_abs.ensures.value))

pub returns-then-sum-lt0-clause-small : goal.returns-then-sum-lt0-clause-small
returns-then-sum-lt0-clause-small c =
    subst IsPull (sym (returns-then-sum-lt0-clause-pull c))
    (IsPull-pull_of c.args.mass c.args.train c.args.sum c.requires.mass c.requires.train_least (record { least = c.requires.least; most = c.requires.most }))

pub returns-else-sum-lt0-clause-pull : goal.returns-else-sum-lt0-clause-pull
returns-else-sum-lt0-clause-pull c =
    let fits : SFits w64 c.args.sum = omega (arith, ints) in
    let above : pos 0 ≤ℤ c.args.sum = omega (arith, ints) in
    let q = rw c.requires.divisor at c.quotient_up.ensures in
    rw q (pull-above_is c.args.mass c.args.train c.args.sum c.unsigned_abs.result c.requires.mass c.requires.train_least
    (record { least = c.requires.least; most = c.requires.most }) above (simp to_z-of_z at c.unsigned_abs.ensures.value))

pub returns-else-sum-lt0-clause-small : goal.returns-else-sum-lt0-clause-small
returns-else-sum-lt0-clause-small c =
    subst IsPull (sym (returns-else-sum-lt0-clause-pull c))
    (IsPull-pull_of c.args.mass c.args.train c.args.sum c.requires.mass c.requires.train_least (record { least = c.requires.least; most = c.requires.most }))
