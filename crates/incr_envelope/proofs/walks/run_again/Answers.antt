use Rattle.std.proofs.Common.{◌≡◌, ℕ, ◌+◌, ◌*◌, ◌<◌, ◌≤◌, ◌≢◌, ◌∙◌, sym, refl, length, take, slice_index, inl, inr, rules, arith}
use Rattle.limit_profile.proofs.CapFacts.{length-caps}
use Rattle.limit_profile.specs.Profile.{caps}
use Rattle.step_rule.specs.Motion.{cells_of, most_of, step_rule_of}
use Rattle.run_rules.specs.Drives.{HoldsEnvelope}
use Rattle.run_rules.specs.Walks.{AgreeOutside, count_of}
use Rattle.unit_rules.specs.Known.{AgreeAt}
use Rattle.incr_envelope.specs.Runs.{is_within, known_in, lists_of}
use Rattle.incr_envelope.specs.Touched.{touched}
use Rattle.incr_envelope.proofs.TouchedFacts.{IsMoving-reaches, touched-stretch}
use Rattle.incr_envelope.proofs.WalkFacts.{IsGreatestAt-before, caps-small, take-written}
use Rattle.incr_envelope.proofs.walks.run_again.Goals as goal

pub walk_back-lowest-requires-clause-past : goal.walk_back-lowest-requires-clause-past
walk_back-lowest-requires-clause-past g c = λ i past on.
    let long = length-caps c.args.limits.now in
    rw c.deref_mut.ensures.value
    (IsGreatestAt-before (step_rule_of c.args.rule.now) (cells_of c.args.rule.now) (most_of c.args.rule.now) (caps c.args.limits.now) c.args.from c.args.to c.args.run.now c.requires.older i (inr past) (omega (arith, long, on)))

pub walk_back-lowest-requires-clause-before : goal.walk_back-lowest-requires-clause-before
walk_back-lowest-requires-clause-before g c = λ i before.
    let long = length-caps c.args.limits.now in
    let same = c.requires.same_length in
    rw c.deref_mut.ensures.value
    (IsGreatestAt-before (step_rule_of c.args.rule.now) (cells_of c.args.rule.now) (most_of c.args.rule.now) (caps c.args.limits.now) c.args.from c.args.to c.args.run.now c.requires.older i (inl before) (omega (arith, long, same, before, c.requires.stretch.0, c.requires.stretch.1)))

pub walk_on-walk-requires-clause-older : goal.walk_on-walk-requires-clause-older
walk_on-walk-requires-clause-older g c = λ some.
    let was = c.requires.older in
    let rule = step_rule_of c.args.rule.now in
    let back = c.walk_back-lowest in
    let brakes = c.args.run.now.brakes in
    let agree : AgreeOutside brakes.items back.new.c back.result c.args.to = rw c.deref_mut.ensures.value at back.ensures.agree in
    let long : length back.new.c ≡ brakes.len = omega (arith, agree.same_points, brakes.ok) in
    let written : c.deref.result.now ≡ back.new.c = c.deref.ensures.value ∙ take-written brakes.items back.new.c brakes.len (sym brakes.ok.0) long in
    let holds : HoldsEnvelope rule (cells_of c.args.rule.now) (most_of c.args.rule.now) brakes.items c.deref_mut-2.result.now c.known_by-known.result =
    rw (c.deref_mut-2.ensures.value, c.known_by-known.ensures, c.cells-cells.ensures.cells) was.fastest.envelope in
    (brakes.items, rw written agree, holds)

pub redo-requires-clause-moving : goal.redo-requires-clause-moving
redo-requires-clause-moving g c =
    let limits = c.args.limits.now in
    let points = length-caps limits in
    let back = c.walk_back-lowest in
    let brakes = c.args.run.now.brakes in
    let agree : AgreeOutside brakes.items back.new.c back.result c.args.to = rw c.deref_mut.ensures.value at back.ensures.agree in
    let braked : c.deref.result.now ≡ back.new.c =
    c.deref.ensures.value ∙ take-written brakes.items back.new.c brakes.len (sym brakes.ok.0) (omega (arith, agree.same_points, brakes.ok)) in
    let walk = c.walk_on-walk in
    let speeds = c.args.run.now.speeds in
    let long : length walk.new.e ≡ speeds.len = search rules in
    let written : c.deref-2.result.now ≡ walk.new.e = c.deref-2.ensures.value ∙ take-written speeds.items walk.new.e speeds.len (sym speeds.ok.0) long in
    let kept = c.cells-cells.ensures.kept in
    let small = caps-small limits (omega (arith, c.requires.same_top, kept.push_lawful.in_range.few)) in
    let holds = c.requires.older.fastest.envelope in
    let all : length walk.new.e ≡ length (caps limits) = omega (arith, long, points, speeds.ok, holds.same_points, holds.brakes.points, c.requires.same_length) in
    let reaches = walk.ensures.under_caps (caps limits) (rw braked back.ensures.list) in
    let cells : c.cells-cells.result + 1 ≡ length (caps limits) = omega (arith, points, c.cells-cells.ensures.cells, c.requires.same_length) in
    rw (written, c.known_by-known-2.ensures, cells) (IsMoving-reaches (step_rule_of c.args.rule.now) (caps limits) walk.new.e walk.result.reach reaches small all)

pub returns-clause-cost : goal.returns-clause-cost
returns-clause-cost g c =
    let cells = cells_of c.args.rule.now in
    let back = c.walk_back-lowest in
    let walk = c.walk_on-walk in
    let brakes = c.args.run.now.brakes in
    let speeds = c.args.run.now.speeds in
    let known = known_in cells c.args.run.now in
    let driven = count_of (cells + 1) walk.result.reach in
    let agree : AgreeOutside brakes.items back.new.c back.result c.args.to = rw c.deref_mut.ensures.value at back.ensures.agree in
    let braked : c.deref.result.now ≡ back.new.c = c.deref.ensures.value ∙ take-written brakes.items back.new.c brakes.len (sym brakes.ok.0) (omega (arith, agree.same_points, brakes.ok)) in
    let fastest = c.requires.older.fastest in
    let holds = fastest.envelope in
    let points = holds.brakes.points in
    let as_long : length walk.new.e ≡ speeds.len = search rules in
    let braking_written = take-written brakes.items back.new.c brakes.len (sym brakes.ok.0) (omega (arith, agree.same_points, brakes.ok)) in
    let speeds_written = take-written speeds.items walk.new.e speeds.len (sym speeds.ok.0) as_long in
    let changed : (i : ℕ) → back.result ≤ i → i < c.args.from → slice_index back.new.c i ≢ slice_index brakes.items i = rw c.deref_mut.ensures.value at back.ensures.changed in
    let whole : length c.deref.result.now ≡ c.cells-cells.result + 1 = rw braked (omega (arith, agree.same_points, points, c.cells-cells.ensures.cells)) in
    let before : c.known_by-known.result ≡ known = rw (c.known_by-known.ensures, c.cells-cells.ensures.cells) refl in
    let after : count_of (length c.deref.result.now) walk.result.reach ≡ driven = rw (whole, c.cells-cells.ensures.cells) refl in
    let known_now : c.known_by-known-2.result ≡ driven = rw (c.known_by-known-2.ensures, c.cells-cells.ensures.cells) refl in
    let differs : (i : ℕ) → c.args.to < i → i ≤ walk.result.last → AgreeAt walk.new.e driven speeds.items known i → ⊥ =
    rw (after, before, c.deref_mut-2.ensures.value) at walk.ensures.differs in
    let stretch = touched-stretch brakes.items back.new.c speeds.items walk.new.e (cells + 1) known driven back.result c.args.from c.args.to walk.result.last
    points (omega (arith, agree.same_points, points)) (omega (arith, holds.same_points, points)) (omega (arith, as_long, speeds.ok, holds.same_points, points))
    (omega (arith, fastest.sums.on_line, fastest.summed)) (omega (arith, known_now, c.redo.ensures.stands.on_line, c.redo.ensures.cells, fastest.summed)) back.ensures.lowest c.requires.stretch.0 walk.ensures.last_least (omega (arith, walk.ensures.last_most)) changed differs in
    let steps : c.redo.new.steps ≤ c.args.steps.now + 35 * (touched (is_within c.args.from c.args.to) (lists_of cells c.args.run.now) (record { brakes = back.new.c; speeds = take driven walk.new.e }) (cells + 1) + 2) + 1024 =
    omega (arith, stretch, back.ensures.cost, walk.ensures.cost, c.redo.ensures.cost, walk.ensures.last_least, back.ensures.lowest, c.requires.stretch.0) in
    rw (braking_written, speeds_written) steps
