use Rattle.std.proofs.Common.{◌+◌, ◌-◌, ◌++◌, ◌∷◌, [], arith, slice_index_or, take, ◌∙◌}
use Rattle.std.proofs.lemmas.List.{take_more}
use Rattle.unit_rules.specs.declared.Zone.{Zone}
use Rattle.limit_profile.specs.Course.{zoned}
use Rattle.limit_profile.proofs.PieceFacts.{IsPiece-lesser}
use Rattle.limit_profile.proofs.ZoneFacts.{zoned_at-append, zoned_at-skipped}
use Rattle.limit_profile.proofs.near.zones_piece.Goals as goal

pub loop-index-preserved : goal.loop-index-preserved
loop-index-preserved c =
    let course = c.args.course in
    let zones = c.args.zones.now in
    let index = c.loop-index.index in
    let next = c.next_near-index.result in
    let none : Zone = record { from = 0; to = 0; kmh = 0 } in
    let zone : Zone = slice_index_or zones index none in
    let before = take index zones in
    let held = c.loop-index.invariant in
    let past = held.past in
    let skipped = c.next_near-index.ensures in
    let met = IsPiece-lesser (zoned course before) (zoned course (zone ∷ [])) (zoned course (before ++ zone ∷ [])) c.args.point c.loop-index.piece c.zone_piece.result c.lesser-piece.result
    (λ i. zoned_at-append course.length course.train course.top before (zone ∷ []) i) held.piece c.zone_piece.ensures.piece c.lesser-piece.ensures.until c.lesser-piece.ensures.most in
    let more = rw (← take_more zones index none c.loop-index-test.true) at met in
    record {
      bound = skipped.bound;
      past = omega (arith, c.zone_piece.ensures.past, c.lesser-piece.ensures.until);
      piece = record {
        ordered = more.ordered;
        same = λ i a b. zoned_at-skipped course.length course.train course.top zones (index + 1) (next - (index + 1)) next i (omega (arith, skipped.past)) skipped.bound
            (λ j d from l. skipped.apart j i d (omega arith) l a b) ∙ more.same i a b;
      };
    }
