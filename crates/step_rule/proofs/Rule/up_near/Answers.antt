use Rattle.std.proofs.Common.{arith, SFits, w64, pos, length, ap}
use Rattle.std.proofs.lemmas.Int.{ints, to_z-of_z}
use Rattle.std.proofs.lemmas.List.{get_or_read}
use Rattle.run_rules.specs.StepRules.{up_from}
use Rattle.step_rule.specs.Motion.{Motion}
use Rattle.step_rule.proofs.Rule.up_near.Goals as goal

pub returns-clause-value : goal.returns-clause-value
unfolding up_from
returns-clause-value g c =
    let e = c.self.view_is in
    let cells = ap (λ (t : Motion). length t.pulls) e in
    let read = get_or_read c.self.inside.pulls.items c.args.cell c.index.result.now (omega arith) c.index.ensures (pos 0) in
    let push_fits : SFits w64 c.at_near-push.result = omega (arith, ints) in
    let pull_fits : SFits w64 c.index.result.now = omega (arith, ints) in
    let fits : SFits w64 c.pushed.result = omega (arith, ints) in
    let q = rw (c.at_near-push.ensures.value, read) at (simp to_z-of_z at c.pushed.ensures) in
    rw (← e) (omega (arith, ints))
