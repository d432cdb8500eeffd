use Rattle.std.proofs.Common.{◌+◌, ◌∷◌, [], ℕ, arith, min, ◌∙◌}
use Rattle.limit_profile.specs.Course.{zoned}
use Rattle.limit_profile.proofs.BreakFacts.{breaks_below-starts}
use Rattle.limit_profile.proofs.CountFacts.{count-zones}
use Rattle.limit_profile.proofs.StretchFacts.{breaks_below-alike}
use Rattle.limit_profile.proofs.ZoneFacts.{zoned_at-hidden, zoned_at-removed}
use Rattle.limit_profile.proofs.changes.free_breaks.Goals as goal

pub is_hidden-requires-clause-begun : goal.is_hidden-requires-clause-begun
is_hidden-requires-clause-begun c =
    let course = c.args.course in
    let before : ℕ → ℕ = λ i. min (zoned course c.args.zones.now i) (zoned course (c.args.zone ∷ []) i) in
    breaks_below-starts before (course.length + 1) c.deref.result.now (omega arith) (c.deref.ensures.value ∙ c.requires.before)

pub returns-then-is_hidden-clause-listed : goal.returns-then-is_hidden-clause-listed
returns-then-is_hidden-clause-listed c =
    let course = c.args.course in
    let before : ℕ → ℕ = λ i. min (zoned course c.args.zones.now i) (zoned course (c.args.zone ∷ []) i) in
    let below = c.is_hidden.ensures c.if-is_hidden.true before (c.deref.ensures.value ∙ c.requires.before) in
    c.requires.before ∙ breaks_below-alike before (zoned course c.args.zones.now) (course.length + 1) (λ i l. zoned_at-hidden course.length course.train course.top c.args.zones.now c.args.zone i (below i))

pub change_breaks-requires-clause-before : goal.change_breaks-requires-clause-before
change_breaks-requires-clause-before c =
    let course = c.args.course in
    let zones = c.args.zones.now in
    let few = count-zones course.length course.train course.top zones (course.length + 1) c.requires.lie in
    record {
      before = λ i. min (zoned course zones i) (zoned course (c.args.zone ∷ []) i);
      after = zoned course zones;
      come = zoned_at-removed course zones c.args.zone;
      listed = c.requires.before;
      fit = omega (arith, few, c.requires.room, c.requires.list_room);
    }

pub returns-clause-listed : goal.returns-clause-listed
returns-clause-listed c =
    let course = c.args.course in
    let zones = c.args.zones.now in
    let before : ℕ → ℕ = λ i. min (zoned course zones i) (zoned course (c.args.zone ∷ []) i) in
    c.change_breaks.ensures.listed before (zoned course zones) (zoned_at-removed course zones c.args.zone) c.requires.before
