use Rattle.std.proofs.Common.{◌≡◌, ◌+◌, ◌-◌, ◌++◌, List, arith, ap, length, refl, slice_index_or, ◌∙◌}
use Rattle.std.proofs.lemmas.List.{append-nil, length-append}
use Rattle.limit_profile.specs.Breaks.{breaks_below}
use Rattle.limit_profile.specs.declared.breaks.Break.{Break}
use Rattle.limit_profile.proofs.BreakFacts.{breaks_below-at, breaks_below-starts}
use Rattle.limit_profile.proofs.CountFacts.{binds-before, count-more}
use Rattle.limit_profile.proofs.PieceFacts.{IsPiece-cut, IsPiece-later}
use Rattle.limit_profile.proofs.changes.list_stretch.Goals as goal

pub break_up_to-index-requires : goal.break_up_to-index-requires
break_up_to-index-requires c =
    let held = c.requires.before in
    breaks_below-starts held.before (c.args.course.length + 1) c.args.breaks.now (omega arith) held.listed

pub loop-point-init : goal.loop-point-init
loop-point-init c =
    let none : Break = record { at = 0; most = 0 } in
    let found = c.break_up_to-index.ensures in
    let line = c.args.course.length in
    record {
      bound = found.bound;
      before = λ d. omega (arith, found.last d);
      ends = c.requires.past;
      listed = λ f g come e. (
        λ l. come.outside (c.args.zone.from - 1) (binds-before line c.args.course.train (c.args.zone.from - 1) c.args.zone (omega arith))
            ∙ breaks_below-at f (line + 1) c.args.breaks.now c.break_up_to-index.result (c.args.zone.from - 1) none (omega arith) e found.bound (omega (arith, found.last none)) (λ m. omega (arith, found.next none m)) (λ m. omega (arith, c.requires.past, c.requires.on_line)),
        ap (λ bs. breaks_below g c.args.zone.from ++ bs) c.clear.ensures.items ∙ append-nil (breaks_below g c.args.zone.from),
      );
      room = refl;
    }

pub begin-most-requires : goal.begin-most-requires
begin-most-requires c =
    let held = c.requires.before in
    let line = c.args.course.length in
    let listed = (c.loop-point.invariant.listed held.before held.after held.come held.listed).1 in
    let long = ap (λ (bs : List Break). length bs) listed in
    let parts = length-append (breaks_below held.after c.args.zone.from) c.loop-point.list.items in
    let more = count-more held.after c.loop-point.point (line + 1 - c.loop-point.point) in
    let end : c.loop-point.point + (line + 1 - c.loop-point.point) ≡ line + 1 = omega (arith, c.loop-point.invariant.ends, c.requires.on_line) in
    record { room = omega (arith, held.fit, long, parts, rw end at more, c.loop-point.list.ok.0, c.loop-point.invariant.room, c.clear.ensures.capacity) }

pub loop-point-preserved : goal.loop-point-preserved
loop-point-preserved c =
    let none : Break = record { at = 0; most = 0 } in
    let at = c.break_from-index.ensures.last none in
    let past = c.held_piece-held.ensures.past in
    let more = c.changed_piece.ensures.past in
    record {
      bound = c.break_from-index.ensures.bound;
      before = λ d. omega (arith, c.break_from-index.ensures.last d, c.changed_piece.ensures.past, c.cut-piece.ensures.until, c.loop-point-test.true);
      ends = omega (arith, c.cut-piece.ensures.until);
      listed = λ f g come e.
          let before = c.loop-point.invariant.listed f g come e in
          let held = IsPiece-later f (slice_index_or c.args.breaks.now c.break_from-index.result none).at c.loop-point.point c.held_piece-held.result at (omega arith) (c.held_piece-held.ensures.piece f none e) in
          let piece = IsPiece-cut g g c.loop-point.point c.args.until c.changed_piece.result c.cut-piece.result (c.changed_piece.ensures.piece f g come held) (omega (arith, c.loop-point-test.true)) (λ i a b. refl) c.cut-piece.ensures.until c.cut-piece.ensures.most in
          let begun = c.begin-most.ensures.listed g (breaks_below g c.args.zone.from) piece before.0 before.1 in
          (λ l. begun.0 l, begun.1);
      room = c.begin-most.ensures.room ∙ c.loop-point.invariant.room;
    }
