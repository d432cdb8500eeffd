use Rattle.std.proofs.Common.{◌≡◌, arith}
use Rattle.std.proofs.lemmas.Int.{ints}
use Rattle.train_mean.proofs.PullFacts.{IsPull-pull_of}
use Rattle.train_mean.proofs.pulled.Goals as goal

pub returns-then-sum-before-clause-small : goal.returns-then-sum-before-clause-small
returns-then-sum-before-clause-small c =
    let e : c.args.before.sum ≡ c.args.sum = omega (arith, ints) in
    rw (c.requires.before, e)
    (IsPull-pull_of c.args.mass c.args.train c.args.sum c.requires.mass c.requires.train_least (record { least = c.requires.least; most = c.requires.most }))
