use Rattle.run_rules.proofs.BrakingFacts.{brakes_alike_below, brakes_alike_past, standing_brakes}
use Rattle.run_rules.proofs.RunFacts.{greater_keeps, runs_or_stalls, stalls_once}
use Rattle.run_rules.proofs.laws_of_runs.Goals as goal

pub returns-clause-greater : goal.returns-clause-greater
returns-clause-greater c = greater_keeps

pub returns-clause-once : goal.returns-clause-once
returns-clause-once c = stalls_once

pub returns-clause-either : goal.returns-clause-either
returns-clause-either c = runs_or_stalls

pub returns-clause-standing : goal.returns-clause-standing
returns-clause-standing c = standing_brakes

pub returns-clause-alike_past : goal.returns-clause-alike_past
returns-clause-alike_past c = brakes_alike_past

pub returns-clause-alike_below : goal.returns-clause-alike_below
returns-clause-alike_below c = brakes_alike_below
