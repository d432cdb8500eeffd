use Rattle.std.proofs.Common.{◌<◌, ap, arith, get_or, length, set, ◌∙◌, ℕ}
use Rattle.std.proofs.lemmas.List.{get_or_default}
use Rattle.std.proofs.lemmas.List.Edits.{map_over_more}
use Rattle.restrictions.specs.Seats.{closed_up}
use Rattle.restrictions.proofs.seats.close_up.Goals as goal

pub loop-place-preserved : goal.loop-place-preserved
loop-place-preserved c =
    let seats = c.loop-place.seats in
    let at = c.loop-place.place-index in
    let place = get_or seats at 0 in
    let within : at < length c.args.seats.now = omega arith in
    let here = get_or_default seats at 0 place (omega (arith, c.loop-place.auto.seats)) in
    ap (λ (p : ℕ). set seats at p) c.closed_up.ensures ∙ map_over_more (closed_up c.args.left) c.args.seats.now seats at place within c.loop-place.invariant here
