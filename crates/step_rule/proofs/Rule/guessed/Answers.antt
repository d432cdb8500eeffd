use Rattle.std.proofs.Common.{arith}
use Rattle.step_rule.proofs.SpanFacts.{IsSpan-guessed, guessed-same}
use Rattle.step_rule.proofs.Rule.guessed.Goals as goal

pub begun-span-requires-clause-span : goal.begun-span-requires-clause-span
begun-span-requires-clause-span g c =
    let guess = c.braked_near-at.ensures in
    IsSpan-guessed c.args.self.now c.args.cell c.args.w c.braked_near-at.result c.args.most guess.kept guess.braked c.requires.in_range c.requires.too_fast

pub returns-clause-cost : goal.returns-clause-cost
returns-clause-cost g c =
    let begun = c.begun-span.ensures in
    let halved = c.halved.ensures.cost 31 (omega (arith, begun.within, c.requires.short)) in
    omega (arith, begun.cost)

pub returns-clause-quick : goal.returns-clause-quick
returns-clause-quick g c =
    let guess = c.braked_near-at.ensures in
    let begun = c.begun-span.ensures in
    λ slow.
    let same = guessed-same c.args.self.now c.args.w c.braked_near-at.result c.halved.result guess.kept guess.braked (omega (arith, begun.from, c.halved.ensures.from)) (omega (arith, begun.within, c.halved.ensures.within, c.requires.in_range)) slow in
    let settled = begun.settled (omega (arith, begun.from, c.halved.ensures.from)) in
    let halved = c.halved.ensures.cost 0 (omega (arith, begun.from)) in
    omega (arith, begun.cost)
