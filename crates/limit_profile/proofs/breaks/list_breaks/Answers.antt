use Rattle.std.proofs.Common.{[], arith}
use Rattle.std.proofs.lemmas.List.{drop_more}
use Rattle.limit_profile.specs.declared.pieces.Piece.{Piece}
use Rattle.limit_profile.proofs.breaks.list_breaks.Goals as goal

pub loop-piece-preserved : goal.loop-piece-preserved
loop-piece-preserved c = record {
  listed = λ f to is.
      let none : Piece = record { until = 0; most = 0 } in
      let before = c.loop-piece.invariant.listed f to is in
      let pieces = rw (drop_more c.args.pieces.now c.loop-piece.piece-index none c.loop-piece-test.true) at before.0 in
      let begun = c.begin-most.ensures.listed f [] pieces.0 before.1 before.2 in
      (pieces.1, begun.0, begun.1);
  one = omega (arith, c.begin-most.ensures.one, c.loop-piece.invariant.one);
  room = omega (arith, c.begin-most.ensures.room, c.loop-piece.invariant.room);
}
