use Rattle.std.proofs.Common.{◌≡◌, ◌+◌, length, arith}
use Rattle.limit_profile.proofs.CapFacts.{length-caps}
use Rattle.limit_profile.specs.Profile.{caps}
use Rattle.step_rule.specs.Motion.{cells_of, step_rule_of}
use Rattle.run_rules.specs.Drives.{ReachesUnderCaps}
use Rattle.incr_envelope.proofs.TouchedFacts.{IsMoving-reaches}
use Rattle.incr_envelope.proofs.WalkFacts.{caps-small}
use Rattle.incr_envelope.proofs.walks.first_run.Goals as goal

pub redo-requires-clause-moving : goal.redo-requires-clause-moving
redo-requires-clause-moving g c =
    let limits = c.args.limits.now in
    let points = length-caps limits in
    let both = c.in_ok-speeds in
    let kept = c.cells-cells.ensures.kept in
    let small = caps-small limits (omega (arith, c.requires.same_top, kept.push_lawful.in_range.few)) in
    let cells : c.cells-cells.result + 1 ≡ length (caps limits) = omega (arith, points, c.cells-cells.ensures.cells, c.requires.same_length) in
    let own = both.ensures.long in
    let long : length both.speeds.items ≡ cells_of c.args.rule.now + 1 = own in
    let all : length both.speeds.items ≡ length (caps limits) = omega (arith, long, cells, c.cells-cells.ensures.cells) in
    let under : ReachesUnderCaps (step_rule_of c.args.rule.now) c.in_ok-brakes.brakes.items both.speeds.items both.reach = rw c.deref.ensures.value at both.ensures.under_caps in
    let reaches = under (caps limits) c.in_ok-brakes.ensures.list in
    rw (c.deref-2.ensures.value, c.known_by.ensures, cells) (IsMoving-reaches (step_rule_of c.args.rule.now) (caps limits) both.speeds.items both.reach reaches small all)
