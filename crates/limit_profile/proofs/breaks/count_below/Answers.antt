use Rattle.std.proofs.Common.{◌-◌, arith}
use Rattle.limit_profile.specs.declared.breaks.Break.{Break}
use Rattle.limit_profile.proofs.StretchFacts.{breaks_below-front}
use Rattle.limit_profile.proofs.breaks.count_below.Goals as goal

pub returns-clause-below : goal.returns-clause-below
returns-clause-below c = λ f to e l.
    let none : Break = record { at = 0; most = 0 } in
    let found = c.break_up_to.ensures in
    let some = c.if-point-eq0.false in
    breaks_below-front f to (c.args.point - 1) c.args.point c.args.breaks.now c.break_up_to.result none e (omega arith) l found.bound (found.last none) (found.next none)
