use Rattle.std.proofs.Common.{ap, append_assoc, arith, sym, ◌∙◌, ◌++◌, ◌∷◌, []}
use Rattle.limit_profile.proofs.BreakFacts.{piece-begun, piece-kept}
use Rattle.limit_profile.proofs.breaks.begin.Goals as goal
use Rattle.limit_profile.proofs.breaks.begin.Goals.{else-from-gt0-via-then-from-gt0+else-most-piece, else-from-gt0-via-else-from-gt0}

pub returns-then-most-piece-clause-listed : goal.returns-then-most-piece-clause-listed
returns-then-most-piece-clause-listed c = λ f front is before breaks.
    let ordered = is.ordered in
    let some = c.if-from-gt0.true in
    let kept = piece-kept f c.args.from c.args.most c.args.piece is (omega (arith, c.if-from-piece.false)) some (before some) c.if-most-piece.true in
    (λ l. kept.0, breaks ∙ sym kept.1)

pub returns-clause-listed : goal.returns-clause-listed
returns-clause-listed c = λ f front is before breaks.
    let ordered = is.ordered in
    let begun = piece-begun f c.args.from c.args.most c.args.piece is (omega (arith, c.if-from-piece.false)) before
    (λ l e. elim c.else-from-gt0.branch [
      | else-from-gt0-via-then-from-gt0+else-most-piece w ↦ w.if-most-piece.false e
      | else-from-gt0-via-else-from-gt0 w ↦ absurd (omega (arith, w.if-from-gt0.false))
    ]) in
    let last = record { at = c.args.from; most = c.args.piece.most } ∷ [] in
    (λ l. begun.0, ap (λ bs. front ++ bs) c.push_reserved.ensures.items ∙ sym (append_assoc front c.args.breaks.now.items last) ∙ ap (λ bs. bs ++ last) breaks ∙ sym begun.1)
