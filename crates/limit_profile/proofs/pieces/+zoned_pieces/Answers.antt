use Rattle.std.proofs.Common.{◌+◌, ◌-◌, ◌/◌, length, take, drop}
use Rattle.limit_profile.specs.Breaks.{zoned_at}
use Rattle.limit_profile.proofs.ZoneFacts.{zoned_at-halves}
use Rattle.limit_profile.proofs.pieces.+zoned_pieces.Goals as goal

pub returns : goal.returns
returns t c =
    let line = c.args.course.length in
    let train = c.args.course.train in
    let top = c.args.course.top in
    let zones = c.args.zones.now in
    let middle = length zones / 2 in
    c.meet.ensures (zoned_at line train top (take middle zones)) (zoned_at line train top (take (length zones - middle) (drop middle zones))) (zoned_at line train top zones) (line + 1)
    (λ i. zoned_at-halves line train top zones middle i) (rw c.deref.ensures.value c.in_ok-left.ensures) (rw c.deref-2.ensures.value c.in_ok-right.ensures)
