use Rattle.std.proofs.Common.{◌+◌, arith}
use Rattle.unit_rules.proofs.DivisorFacts.{quotient-by_rest}
use Rattle.unit_rules.proofs.divisors.Divisor.quotient.Goals as goal

pub returns-else-n-guess-clause-quotient : goal.returns-else-n-guess-clause-quotient
returns-else-n-guess-clause-quotient c =
    let at_most = c.guess-guess.ensures.at_most in
    let next = c.guess-guess.ensures.next in
    let more = rw c.self.view_is at c.if-n-guess.false in
    quotient-by_rest c.args.n c.args.self.now (c.guess-guess.result + 1) (omega arith) (omega arith)
