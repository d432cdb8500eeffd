use Rattle.std.proofs.Common.{◌≡◌, ◌-◌, arith}
use Rattle.time_brackets.specs.Sums.{longest_at, sum_over}
use Rattle.allowances.proofs.StretchFacts.{longest-join_at, longest-short, longest-some}
use Rattle.allowances.proofs.allowance.Allowance.of.Goals as goal

pub overflow_sub-over : goal.overflow_sub-over
overflow_sub-over g c =
    let over = longest-join_at c.args.e.now c.args.section.from c.args.section.to (omega arith) in
    omega arith

pub amount_over-amount-requires-clause-time : goal.amount_over-amount-requires-clause-time
amount_over-amount-requires-clause-time g c =
    let over = longest-join_at c.args.e.now c.args.section.from c.args.section.to (omega arith) in
    let short = longest-short c.args.e.now c.requires.stands.known c.args.section.from (c.args.section.to - c.args.section.from) c.requires.stands.stands.moving (omega arith) in
    omega arith

pub invariant_of-result : goal.invariant_of-result
invariant_of-result g c =
    let over = longest-join_at c.args.e.now c.args.section.from c.args.section.to (omega arith) in
    let some = longest-some c.args.e.now c.requires.stands.known c.args.section.from (c.args.section.to - c.args.section.from) c.requires.stands.stands.moving (omega arith) (omega arith) in
    record { small = c.amount_over-amount.ensures.small; some = omega arith }

pub returns-clause-allowance : goal.returns-clause-allowance
returns-clause-allowance g c =
    let joined = longest-join_at c.args.e.now c.args.section.from c.args.section.to (omega arith) in
    let over : c.upto.result.hi - c.upto-before.result.hi ≡ sum_over (longest_at c.args.e.now) c.args.section.from (c.args.section.to - c.args.section.from) = omega arith in
    record {
      before = c.upto-before.ensures.hi;
      over = over;
      amount = rw (← over) c.amount_over-amount.ensures.amount;
    }
