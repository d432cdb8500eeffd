use Rattle.std.proofs.Common.{arith, ap}
use Rattle.time_brackets.specs.declared.Bracket.{Bracket}
use Rattle.allowances.proofs.CallFacts.{seconds_before-small}
use Rattle.allowances.proofs.run.Run.row_at.Goals as goal

pub later-arrive-requires : goal.later-arrive-requires
later-arrive-requires g c =
    let small = seconds_before-small c.args.self.now.plan.now c.args.at c.requires.laid.plan in
    let short = c.requires.laid.whole.short in
    record { lo = omega arith; hi = omega arith }

pub later-requires : goal.later-requires
later-requires g c =
    let small = seconds_before-small c.args.self.now.plan.now c.args.at c.requires.laid.plan in
    let short = c.requires.laid.whole.short in
    let lo = ap (λ (b : Bracket). b.lo) c.later-arrive.ensures in
    let hi = ap (λ (b : Bracket). b.hi) c.later-arrive.ensures in
    record { lo = omega arith; hi = omega arith }

pub returns-clause-timed : goal.returns-clause-timed
returns-clause-timed g c =
    let small = seconds_before-small c.args.self.now.plan.now c.args.at c.requires.laid.plan in
    let short = c.requires.laid.whole.short in
    let arrives_lo = ap (λ (b : Bracket). b.lo) c.later-arrive.ensures in
    let arrives_hi = ap (λ (b : Bracket). b.hi) c.later-arrive.ensures in
    let leaves_lo = ap (λ (b : Bracket). b.lo) c.later.ensures in
    let leaves_hi = ap (λ (b : Bracket). b.hi) c.later.ensures in
    record {
      arrives = omega arith;
      leaves = omega arith;
      last = omega arith;
      short = omega arith;
      added = omega arith;
      planned = omega arith;
    }
