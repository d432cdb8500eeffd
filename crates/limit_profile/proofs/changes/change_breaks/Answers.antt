use Rattle.std.proofs.Common.{◌+◌, List, ap, arith, length, ◌∙◌}
use Rattle.limit_profile.specs.declared.breaks.Break.{Break}
use Rattle.limit_profile.proofs.BreakFacts.{breaks_below-starts}
use Rattle.limit_profile.proofs.StretchFacts.{breaks_below-changed, length-spliced, length-front}
use Rattle.limit_profile.proofs.changes.change_breaks.Goals as goal

pub count_below-first-requires : goal.count_below-first-requires
count_below-first-requires c =
    let held = c.requires.before in
    breaks_below-starts held.before (c.args.course.length + 1) c.deref-2.result.now (omega arith) (c.deref-2.ensures.value ∙ held.listed)

pub count_below-past-requires : goal.count_below-past-requires
count_below-past-requires c =
    let held = c.requires.before in
    breaks_below-starts held.before (c.args.course.length + 1) c.deref-3.result.now (omega arith) (c.deref-3.ensures.value ∙ held.listed)

pub put_between-requires : goal.put_between-requires
put_between-requires c =
    let held = c.requires.before in
    let line = c.args.course.length in
    let end = line + 1 in
    let zone = c.args.zone in
    let breaks = c.args.breaks.now.items in
    let list = c.list_stretch.new.list.items in
    let until = c.min-until.result + 1 in
    let first = c.count_below-first.result in
    let past = c.count_below-past.result in
    let ends = c.released.ensures in
    let rises = c.requires.lies.rises in
    let on_line = c.requires.lies.ends in
    let front = rw c.deref-2.ensures.value at (c.count_below-first.ensures.below held.before end (c.deref-2.ensures.value ∙ held.listed) (omega arith)) in
    let back = rw c.deref-3.ensures.value at (c.count_below-past.ensures.below held.before end (c.deref-3.ensures.value ∙ held.listed) (omega (arith, c.min-until.ensures))) in
    let middle = c.list_stretch.ensures.listed held.before held.after held.come (c.deref.ensures.value ∙ held.listed) in
    let whole = breaks_below-changed c.args.course c.args.change zone c.args.zones.now held.before held.after until breaks list first past c.requires.lies (omega (arith, ends, c.min-until.ensures)) held.come held.listed front back middle in
    let long = ap (λ (bs : List Break). length bs) whole in
    let first_in = rw c.deref-2.ensures.value at c.count_below-first.ensures.bound in
    let past_in = rw c.deref-3.ensures.value at c.count_below-past.ensures.bound in
    let parts = length-spliced breaks list first past first_in in
    let ordered = length-front held.before breaks first past zone.from until first_in past_in front back (omega (arith, ends, c.min-until.ensures)) in
    record {
      ordered = ordered;
      bound = omega (arith, past_in, c.args.breaks.now.ok.0);
      room = omega (arith, held.fit, long, parts, c.args.breaks.now.ok.0, c.list_stretch.new.list.ok.0);
      list_room = omega (arith, held.fit, long, parts, c.args.breaks.now.ok.0, c.list_stretch.new.list.ok.0, c.list_stretch.ensures.room);
    }

pub returns-clause-listed : goal.returns-clause-listed
returns-clause-listed c = λ f g come e.
    let end = c.args.course.length + 1 in
    let ends = c.released.ensures in
    let rises = c.requires.lies.rises in
    let on_line = c.requires.lies.ends in
    c.put_between.ensures.items ∙ breaks_below-changed c.args.course c.args.change c.args.zone c.args.zones.now f g (c.min-until.result + 1) c.args.breaks.now.items c.list_stretch.new.list.items c.count_below-first.result c.count_below-past.result
    c.requires.lies (omega (arith, ends, c.min-until.ensures)) come e
    (rw c.deref-2.ensures.value at (c.count_below-first.ensures.below f end (c.deref-2.ensures.value ∙ e) (omega arith)))
    (rw c.deref-3.ensures.value at (c.count_below-past.ensures.below f end (c.deref-3.ensures.value ∙ e) (omega (arith, c.min-until.ensures))))
    (c.list_stretch.ensures.listed f g come (c.deref.ensures.value ∙ e))
