use Rattle.std.proofs.Common.{◌+◌, ap, arith, ◌∙◌}
use Rattle.limit_profile.specs.Course.{zoned}
use Rattle.limit_profile.specs.Profile.{Profile}
use Rattle.limit_profile.proofs.BreakFacts.{breaks_below-starts, breaks_below-below, breaks_below-followed}
use Rattle.limit_profile.proofs.CountFacts.{count-zones}
use Rattle.limit_profile.proofs.Limits.breaks.Goals as goal

pub returns-clause-some : goal.returns-clause-some
returns-clause-some c =
    let course = c.self.inside.course in
    (breaks_below-starts (zoned course c.self.inside.zones.items) (course.length + 1) c.deref.result.now (omega arith) (c.deref.ensures.value ∙ c.self.invariant.listed)).some

pub returns-clause-first : goal.returns-clause-first
returns-clause-first c = λ d.
    let course = c.self.inside.course in
    (breaks_below-starts (zoned course c.self.inside.zones.items) (course.length + 1) c.deref.result.now (omega arith) (c.deref.ensures.value ∙ c.self.invariant.listed)).first d

pub returns-clause-rising : goal.returns-clause-rising
returns-clause-rising c = λ k d l.
    let course = c.self.inside.course in
    (breaks_below-followed (zoned course c.self.inside.zones.items) (course.length + 1) c.deref.result.now k d (omega arith) (c.deref.ensures.value ∙ c.self.invariant.listed) l).rises

pub returns-clause-other : goal.returns-clause-other
returns-clause-other c = λ k d l.
    let course = c.self.inside.course in
    (breaks_below-followed (zoned course c.self.inside.zones.items) (course.length + 1) c.deref.result.now k d (omega arith) (c.deref.ensures.value ∙ c.self.invariant.listed) l).other

pub returns-clause-on_line : goal.returns-clause-on_line
returns-clause-on_line c = λ k d l.
    let course = c.self.inside.course in
    let below = breaks_below-below (zoned course c.self.inside.zones.items) (course.length + 1) c.deref.result.now k d (omega arith) (c.deref.ensures.value ∙ c.self.invariant.listed) l in
    rw (← ap (λ (p : Profile). p.length) c.self.view_is) (omega arith)

pub returns-clause-few : goal.returns-clause-few
returns-clause-few c =
    let course = c.self.inside.course in
    let few = count-zones course.length course.train course.top c.self.inside.zones.items (course.length + 1) c.self.invariant.profile.zones_lie in
    rw (← ap (λ (p : Profile). p.zones) c.self.view_is, c.deref.ensures.value ∙ c.self.invariant.listed) few
