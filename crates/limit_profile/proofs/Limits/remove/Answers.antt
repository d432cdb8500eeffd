use Rattle.std.proofs.Common.{◌≡◌, ◌∷◌, [], ℕ, List, min, ◌+◌, arith, ◌∙◌}
use Rattle.std.proofs.lemmas.List.Elements.{All-tail}
use Rattle.std.proofs.lemmas.List.Sorted.{All-permutation}
use Rattle.unit_rules.specs.Zone.{LiesOn}
use Rattle.unit_rules.specs.declared.Zone.{Zone}
use Rattle.limit_profile.specs.Course.{zoned}
use Rattle.limit_profile.specs.Profile.{Profile}
use Rattle.limit_profile.proofs.CapFacts.{IsProfile-rezoned}
use Rattle.limit_profile.proofs.StretchFacts.{breaks_below-alike}
use Rattle.limit_profile.proofs.ZoneFacts.{zoned_at-freed}
use Rattle.limit_profile.proofs.Limits.remove.Goals as goal

pub free_breaks-requires-clause-lie : goal.free_breaks-requires-clause-lie
free_breaks-requires-clause-lie c =
    let course = c.self.inside.course in
    let left = c.remove.new.zones.items in
    let whole = All-permutation (LiesOn course.length) c.self.inside.zones.items (c.args.zone ∷ left) c.remove.ensures.same c.self.invariant.profile.zones_lie in
    rw c.deref.ensures.value (All-tail (LiesOn course.length) c.args.zone left whole)

pub free_breaks-requires-clause-before : goal.free_breaks-requires-clause-before
free_breaks-requires-clause-before c =
    let course = c.self.inside.course in
    let zones = c.self.inside.zones.items in
    let left : List Zone = c.deref.result.now in
    let freed : (i : ℕ) → zoned course zones i ≡ min (zoned course left i) (zoned course (c.args.zone ∷ []) i) = λ i.
    rw c.deref.ensures.value (zoned_at-freed course zones c.remove.new.zones.items c.args.zone i c.remove.ensures.same) in
    c.self.invariant.listed ∙ breaks_below-alike (zoned course zones) (λ i. min (zoned course left i) (zoned course (c.args.zone ∷ []) i)) (course.length + 1) (λ i l. freed i)

pub invariant_of-self : goal.invariant_of-self
invariant_of-self c =
    let kept = c.self.invariant in
    let course = c.self.inside.course in
    let left = c.remove.new.zones.items in
    let whole = All-permutation (LiesOn course.length) c.self.inside.zones.items (c.args.zone ∷ left) c.remove.ensures.same kept.profile.zones_lie in
    let before : Profile = record { length = course.length; train = course.train; top = course.top; zones = c.self.inside.zones.items; bounds = c.self.inside.bounds.items; spare = c.self.inside.spare } in
    let fewer = c.remove.ensures.len in
    let freed = c.free_breaks.ensures in
    record {
      profile = IsProfile-rezoned before left (before.spare + 1) kept.profile (All-tail (LiesOn course.length) c.args.zone left whole);
      ranked = c.remove.ensures.ranked;
      listed = rw (← c.deref.ensures.value) freed.listed;
      zones_fit = omega (arith, fewer, c.remove.new.zones.ok, c.self.inside.zones.ok, kept.zones_fit, c.remove.ensures.room);
      breaks_fit = omega (arith, fewer, c.remove.new.zones.ok, c.self.inside.zones.ok, kept.breaks_fit, freed.room);
      others_fit = omega (arith, fewer, c.remove.new.zones.ok, c.self.inside.zones.ok, kept.others_fit, freed.list_room);
    }
