use Rattle.std.proofs.Common.{◌==◌, inl, inr, arith, refl, slice_index_or}
use Rattle.std.proofs.lemmas.List.{drop_all}
use Rattle.limit_profile.specs.declared.pieces.Piece.{Piece}
use Rattle.limit_profile.proofs.PieceFacts.{Meets-all, Meets-more, one_at_most}
use Rattle.limit_profile.proofs.pieces.meet.Goals as goal
use Rattle.limit_profile.proofs.pieces.meet.Goals.{then-loop-at_left-test+else-at_right-right, else-loop-at_left-test}

pub loop-at_left-preserved : goal.loop-at_left-preserved
loop-at_left-preserved c =
    let l = c.loop-at_left-test.true in
    let r = c.if-at_right-right.true in
    let none : Piece = record { until = 0; most = 0 } in
    let here : Piece = slice_index_or c.args.left.now c.loop-at_left.at_left none in
    let there : Piece = slice_index_or c.args.right.now c.loop-at_left.at_right none in
    let left = one_at_most (here.until == c.lesser-piece.result.until) in
    let right = one_at_most (there.until == c.lesser-piece.result.until) in
    record {
      left = omega (arith, c.passed-at_left.ensures);
      right = omega (arith, c.passed-at_right.ensures);
      meets = λ f g h to is a b. rw (c.in-Ok.ensures.items, c.passed-at_left.ensures, c.passed-at_right.ensures, c.lesser-piece.ensures.until, c.lesser-piece.ensures.most)
          (Meets-more f g h c.args.left.now c.args.right.now c.loop-at_left.met.items c.loop-at_left.at_left c.loop-at_left.at_right none here there to is l r refl refl (c.loop-at_left.invariant.meets f g h to is a b));
    }

pub returns : goal.returns
returns c = λ f g h to is a b.
    Meets-all f g h _ _ c.loop-at_left.met.items to (elim c.loop-at_left-test.branch [
      | then-loop-at_left-test+else-at_right-right w ↦ inr (drop_all c.loop-at_left.at_right c.args.right.now (omega (arith, w.if-at_right-right.false)))
      | else-loop-at_left-test w ↦ inl (drop_all c.loop-at_left.at_left c.args.left.now (omega (arith, w.loop-at_left-test.false)))
    ]) (c.loop-at_left.invariant.meets f g h to is a b)
