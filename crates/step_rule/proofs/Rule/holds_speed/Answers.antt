use Rattle.std.proofs.Common.{arith, pos, length, ap}
use Rattle.std.proofs.lemmas.Int.{ints}
use Rattle.std.proofs.lemmas.List.{get_or_read}
use Rattle.step_rule.specs.Motion.{Motion}
use Rattle.step_rule.proofs.HillFacts.{IsHeld-lesser}
use Rattle.step_rule.proofs.Rule.holds_speed.Goals as goal

pub returns-clause-held : goal.returns-clause-held
returns-clause-held c =
    let e = c.self.view_is in
    let cells = ap (λ (t : Motion). length t.pulls) e in
    let read = get_or_read c.self.inside.pulls.items c.args.cell c.index.result.now (omega arith) c.index.ensures (pos 0) in
    rw (← e) (λ t. IsHeld-lesser _ c.self.inside.held _ c.self.invariant.moves.moved_least (rw (← read) (omega (arith, ints, t))) c.self.invariant.held)
