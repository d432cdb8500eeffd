use Rattle.std.proofs.Common.{◌≡◌, length, ap, arith, ◌∙◌}
use Rattle.run_rules.specs.Drives.{reach_of}
use Rattle.run_rules.specs.Walks.{count_of}
use Rattle.run_rules.proofs.AgreeFacts.{EndsAt-holds}
use Rattle.run_rules.proofs.DrivingFacts.{IsDrivable-braking_list}
use Rattle.run_rules.proofs.StallFacts.{IsOnlyReach-reaches, ReachesAs-caps, ReachesAs-ends, count_of-reach_of}
use Rattle.step_rule.specs.Motion.{cells_of, most_of, step_rule_of}
use Rattle.effort_run.proofs.walk_on.Goals as goal

pub drive-end-requires-clause-older : goal.drive-end-requires-clause-older
drive-end-requires-clause-older g c = λ some.
    let older = c.requires.older some in
    (older.0, older.1, EndsAt-holds (step_rule_of c.args.rule.now) (cells_of c.args.rule.now) (most_of c.args.rule.now) older.0 c.args.e.now c.args.known c.cells-cells.ensures.monotone older.2)

pub returns-clause-reach : goal.returns-clause-reach
returns-clause-reach g c =
    let line = IsDrivable-braking_list (step_rule_of c.args.rule.now) (cells_of c.args.rule.now) (most_of c.args.rule.now) c.args.c.now c.cells-cells.ensures.monotone c.requires.brakes in
    let reach : c.reach_with.result ≡ reach_of (length c.args.c.now) c.drive-end.result.known = c.reach_with.ensures ∙ ap (λ points. reach_of points c.drive-end.result.known) (omega arith) in
    rw reach (ReachesAs-ends (step_rule_of c.args.rule.now) c.args.c.now c.drive-end.new.e c.drive-end.result.known line (omega arith) c.drive-end.ensures.ends)

pub returns-clause-only : goal.returns-clause-only
returns-clause-only g c = IsOnlyReach-reaches (step_rule_of c.args.rule.now) c.args.c.now c.drive-end.new.e c.reach_with.result (returns-clause-reach g c)

pub returns-clause-under_caps : goal.returns-clause-under_caps
returns-clause-under_caps g c = λ x list. ReachesAs-caps (step_rule_of c.args.rule.now) x c.args.c.now c.drive-end.new.e c.reach_with.result list (returns-clause-reach g c)

pub returns-clause-same_before : goal.returns-clause-same_before
returns-clause-same_before g c = λ i l.
    let on = c.drive-end.ensures.ends.on_line in
    let count : count_of (length c.args.c.now) c.reach_with.result ≡ c.drive-end.result.known = ap (count_of (length c.args.c.now)) (c.reach_with.ensures ∙ ap (λ points. reach_of points c.drive-end.result.known) (omega arith)) ∙ count_of-reach_of (length c.args.c.now) c.drive-end.result.known on in
    rw count (c.drive-end.ensures.same_before i l)
