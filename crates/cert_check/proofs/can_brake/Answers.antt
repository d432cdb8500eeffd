use Rattle.std.proofs.Common.{arith, refl}
use Rattle.std.proofs.lemmas.Int.{ints}
use Rattle.step_rule.proofs.BrakeFacts.{low-le}
use Rattle.cert_check.proofs.can_brake.Goals as goal

pub returns-then-u-next-clause-brakes : goal.returns-then-u-next-clause-brakes
returns-then-u-next-clause-brakes g c =
    let low = low-le c.args.rule.now c.cells.ensures.kept c.args.point c.args.u c.requires.in_range in
    (λ h on. omega (arith, ints), λ h. refl)
