use Rattle.std.proofs.Common.{ap, arith}
use Rattle.std.proofs.lemmas.List.{get_or_default}
use Rattle.limit_profile.specs.declared.breaks.Break.{Break}
use Rattle.limit_profile.proofs.BreakFacts.{breaks_below-at}
use Rattle.limit_profile.proofs.breaks.held_piece.Goals as goal

pub returns-then-index-breaks-clause-piece : goal.returns-then-index-breaks-clause-piece
returns-then-index-breaks-clause-piece c = λ f d e.
    let none : Break = record { at = 0; most = 0 } in
    let at = ap (λ (b : Break). b.at) (get_or_default c.args.breaks.now c.args.index d none c.requires.bound) in
    let last = c.requires.last none in
    let next = c.requires.next none c.if-index-breaks.true in
    record {
      ordered = omega arith;
      same = λ i l k. breaks_below-at f c.args.end c.args.breaks.now c.args.index i none (omega (arith, c.requires.short)) e c.requires.bound (omega arith) (λ m. k) (λ m. absurd (omega (arith, c.if-index-breaks.true)));
    }

pub returns-clause-piece : goal.returns-clause-piece
returns-clause-piece c = λ f d e.
    let none : Break = record { at = 0; most = 0 } in
    let at = ap (λ (b : Break). b.at) (get_or_default c.args.breaks.now c.args.index d none c.requires.bound) in
    let last = c.requires.last none in
    record {
      ordered = omega (arith, c.requires.short);
      same = λ i l k. breaks_below-at f c.args.end c.args.breaks.now c.args.index i none (omega (arith, c.requires.short)) e c.requires.bound (omega arith) (λ m. absurd (omega (arith, c.if-index-breaks.false))) (λ m. k);
    }
