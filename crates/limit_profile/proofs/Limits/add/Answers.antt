use Rattle.std.proofs.Common.{◌∷◌, ◌-◌, ◌+◌, arith}
use Rattle.std.proofs.lemmas.List.Elements.{All-cons}
use Rattle.std.proofs.lemmas.List.Sorted.{All-permutation}
use Rattle.unit_rules.specs.Zone.{LiesOn}
use Rattle.limit_profile.specs.Course.{zoned}
use Rattle.limit_profile.specs.Profile.{Profile}
use Rattle.limit_profile.proofs.CapFacts.{IsProfile-rezoned}
use Rattle.limit_profile.proofs.CountFacts.{count-zones}
use Rattle.limit_profile.proofs.ZoneFacts.{zoned_at-added}
use Rattle.limit_profile.proofs.Limits.add.Goals as goal

pub change_breaks-requires-clause-ranked : goal.change_breaks-requires-clause-ranked
change_breaks-requires-clause-ranked c = λ i j d le lt. absurd (omega arith)

pub change_breaks-requires-clause-before : goal.change_breaks-requires-clause-before
change_breaks-requires-clause-before c =
    let kept = c.self.invariant in
    let course = c.self.inside.course in
    let zones = c.self.inside.zones.items in
    let zone = c.args.zone in
    let more = c.insert.new.zones.items in
    let lies = rw (← c.self.view_is) at c.requires.lies in
    let lie = All-permutation (LiesOn course.length) (zone ∷ zones) more c.insert.ensures.same (All-cons (LiesOn course.length) zone zones lies kept.profile.zones_lie) in
    let few = count-zones course.length course.train course.top more (course.length + 1) lie in
    let spare = rw (← c.self.view_is) at c.requires.spare in
    record {
      before = zoned course zones;
      after = zoned course more;
      come = zoned_at-added course zones more zone c.insert.ensures.same;
      listed = kept.listed;
      fit = omega (arith, few, c.insert.ensures.len, c.insert.new.zones.ok, c.self.inside.zones.ok, spare, kept.breaks_fit, kept.others_fit);
    }

pub invariant_of-self : goal.invariant_of-self
invariant_of-self c =
    let kept = c.self.invariant in
    let course = c.self.inside.course in
    let zones = c.self.inside.zones.items in
    let zone = c.args.zone in
    let more = c.insert.new.zones.items in
    let lies = rw (← c.self.view_is) at c.requires.lies in
    let lie = All-permutation (LiesOn course.length) (zone ∷ zones) more c.insert.ensures.same (All-cons (LiesOn course.length) zone zones lies kept.profile.zones_lie) in
    let spare = rw (← c.self.view_is) at c.requires.spare in
    let before : Profile = record { length = course.length; train = course.train; top = course.top; zones = zones; bounds = c.self.inside.bounds.items; spare = c.self.inside.spare } in
    let longer = c.insert.ensures.len in
    let changed = c.change_breaks.ensures in
    record {
      profile = IsProfile-rezoned before more (before.spare - 1) kept.profile lie;
      ranked = c.insert.ensures.ranked;
      listed = changed.listed (zoned course zones) (zoned course more) (zoned_at-added course zones more zone c.insert.ensures.same) kept.listed;
      zones_fit = omega (arith, longer, c.insert.new.zones.ok, c.self.inside.zones.ok, spare, kept.zones_fit, c.insert.ensures.room);
      breaks_fit = omega (arith, longer, c.insert.new.zones.ok, c.self.inside.zones.ok, spare, kept.breaks_fit, changed.room);
      others_fit = omega (arith, longer, c.insert.new.zones.ok, c.self.inside.zones.ok, spare, kept.others_fit, changed.list_room);
    }
