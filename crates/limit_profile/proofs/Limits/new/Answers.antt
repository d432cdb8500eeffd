use Rattle.std.proofs.Common.{◌+◌, arith}
use Rattle.std.proofs.lemmas.List.Sorted.{All-permutation}
use Rattle.unit_rules.specs.Zone.{LiesOn}
use Rattle.limit_profile.specs.Course.{zoned}
use Rattle.limit_profile.specs.Profile.{profile_of}
use Rattle.limit_profile.specs.declared.pieces.Course.{Course}
use Rattle.limit_profile.proofs.CapFacts.{IsProfile-rezoned}
use Rattle.limit_profile.proofs.Limits.new.Goals as goal

pub zoned_pieces-requires-clause-lie : goal.zoned_pieces-requires-clause-lie
zoned_pieces-requires-clause-lie c =
    rw c.deref.ensures.value (All-permutation (LiesOn c.args.length) c.args.zones.now c.in_ok-zones.zones.items c.in_ok-zones.ensures.same c.requires.zones_lie)

pub invariant_of-result : goal.invariant_of-result
invariant_of-result c =
    let course : Course = record { length = c.args.length; train = c.args.train; top = c.args.top } in
    let zones = c.in_ok-zones.zones.items in
    let made = profile_of c.args.length c.args.train c.args.top c.args.zones.now c.args.bounds.now in
    let lie = All-permutation (LiesOn c.args.length) c.args.zones.now zones c.in_ok-zones.ensures.same c.requires.zones_lie in
    record {
      profile = rw c.in-Ok.ensures.items (IsProfile-rezoned made zones 0 c.requires lie);
      ranked = c.in_ok-zones.ensures.ranked;
      listed = c.in_ok-breaks.ensures.listed (zoned course zones) (course.length + 1) (rw (c.deref-2.ensures.value, ← c.deref.ensures.value) c.in_ok-pieces.ensures);
      zones_fit = omega (arith, c.in_ok-zones.zones.ok);
      breaks_fit = omega (arith, c.in_ok-breaks.ensures.room, c.max.ensures, c.break_room-room.ensures, c.len.ensures, c.in_ok-zones.zones.ok);
      others_fit = omega (arith, c.in_ok-other.ensures.room, c.break_room-room.ensures, c.len.ensures, c.in_ok-zones.zones.ok);
    }
