use Rattle.std.proofs.Common.{◌≡◌, ◌∙◌, ◌+◌, ap, length}
use Rattle.limit_profile.specs.Profile.{caps}
use Rattle.run_rules.specs.Drives.{ReachesUnderCaps}
use Rattle.run_rules.specs.Runs.{IsBrakingList}
use Rattle.run_rules.specs.Walks.{count_of}
use Rattle.step_rule.specs.Motion.{step_rule_of}
use Rattle.case_rules.specs.Case.{train_rule}
use Rattle.incr_envelope.specs.Envelope.{caps_under}
use Rattle.incr_envelope.proofs.KeptFacts.{ReachesAs-known}
use Rattle.incr_envelope.proofs.scratch.drive.Goals as goal

pub returns-clause-reaches : goal.returns-clause-reaches
returns-clause-reaches g c =
    let line = c.args.line.now in
    let stock = c.args.stock in
    let both = c.in_ok-limits in
    let run = c.in_ok-speeds in
    let x = caps_under line stock c.args.plan.now c.args.force.now.pairs in
    let rule : step_rule_of both.rule ≡ train_rule line stock = ap step_rule_of both.ensures.motion in
    let limits : caps both.limits ≡ x = both.ensures.caps in
    let list : IsBrakingList (train_rule line stock) x c.in_ok-brakes.brakes.items = rw (rule, limits) at c.in_ok-brakes.ensures.list in
    let under : ReachesUnderCaps (train_rule line stock) c.in_ok-brakes.brakes.items run.speeds.items run.reach = rw (rule, c.deref.ensures.value) at run.ensures.under_caps in
    let long : length run.speeds.items ≡ line.length + 1 = rw both.ensures.cells at run.ensures.long in
    let cells : c.cells.result ≡ line.length = c.cells.ensures.cells ∙ both.ensures.cells in
    let known : c.known_by.result ≡ count_of (line.length + 1) run.reach = rw cells at c.known_by.ensures in
    rw (c.truncate.ensures.items, known) (ReachesAs-known (train_rule line stock) x run.speeds.items run.reach (line.length + 1) long (under x list))
