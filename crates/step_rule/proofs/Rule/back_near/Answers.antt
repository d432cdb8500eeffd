use Rattle.std.proofs.Common.{◌<ℤ◌, pos, arith, refl}
use Rattle.std.proofs.lemmas.Int.{ints}
use Rattle.step_rule.specs.Motion.{cells_of, most_of, step_rule_of}
use Rattle.step_rule.proofs.HillFacts.{braked-greatest, low-braked}
use Rattle.step_rule.proofs.SpanFacts.{IsSpan-greatest, IsSpan-zero, most_of-le}
use Rattle.step_rule.proofs.Rule.back_near.Goals as goal

pub returns-then-is_gentle-clause-braked : goal.returns-then-is_gentle-clause-braked
returns-then-is_gentle-clause-braked g c =
    rw c.min.ensures (low-braked c.args.self.now c.args.cell c.args.w c.braked_near.result c.args.most c.is_gentle.ensures.kept c.braked_near.ensures.braked)

pub returns-then-is_gentle-clause-greatest : goal.returns-then-is_gentle-clause-greatest
returns-then-is_gentle-clause-greatest g c = λ u h slow.
    let at = braked-greatest c.args.self.now c.args.cell c.args.w c.braked_near.result u c.is_gentle.ensures.kept (c.if-is_gentle.ensures.gentle refl) c.braked_near.ensures.braked (omega arith) slow in
    omega arith

pub halved-requires-clause-span : goal.halved-requires-clause-span
halved-requires-clause-span g c =
    let motion = c.args.self.now in
    let value = c.low.ensures.value in
    let fast : pos c.args.w <ℤ (step_rule_of motion).low c.args.cell c.args.most = omega (arith, ints) in
    IsSpan-zero (step_rule_of motion) (cells_of motion) (most_of motion) c.args.cell c.args.w c.args.most c.cells-cells.ensures.monotone c.requires.cell fast

pub returns-then-most-gt-GUESSED-clause-greatest : goal.returns-then-most-gt-GUESSED-clause-greatest
returns-then-most-gt-GUESSED-clause-greatest g c =
    let motion = c.args.self.now in
    λ u h. IsSpan-greatest (step_rule_of motion) (cells_of motion) (most_of motion) c.args.cell c.args.w c.halved.result u c.cells-cells.ensures.monotone c.requires.cell c.halved.ensures.greatest (omega arith)

pub returns-then-most-gt-GUESSED-clause-cost : goal.returns-then-most-gt-GUESSED-clause-cost
returns-then-most-gt-GUESSED-clause-cost g c =
    let small = most_of-le c.args.self.now c.cells-cells.ensures.kept in
    let few = c.halved.ensures.cost 32 (omega arith) in
    omega arith

pub returns-clause-greatest : goal.returns-clause-greatest
returns-clause-greatest g c =
    let motion = c.args.self.now in
    λ u h. IsSpan-greatest (step_rule_of motion) (cells_of motion) (most_of motion) c.args.cell c.args.w c.guessed.result u c.cells-cells.ensures.monotone c.requires.cell c.guessed.ensures.greatest (omega arith)
