use Rattle.std.proofs.Common.{arith}
use Rattle.std.proofs.lemmas.Result.{on_ok_weaker}
use Rattle.made_cases.proofs.ScriptFacts.{in_force-count, with_command-put, with_command-take, with_command-time}
use Rattle.made_cases.proofs.commands.Script.add.Goals as goal

pub returns-then-j-eq19 : goal.returns-then-j-eq19
returns-then-j-eq19 c =
    on_ok_weaker c.ask_time.result
    (λ keeps n s kept. rw (with_command-time n c.args.j s c.if-j-eq19.true) (keeps n s kept))
    (c.ask_time.ensures c.args.draws.now)

pub returns-then-len-eq-MOST_IN_FORCE : goal.returns-then-len-eq-MOST_IN_FORCE
returns-then-len-eq-MOST_IN_FORCE c =
    on_ok_weaker c.take_first.result
    (λ keeps n s kept.
    let count = in_force-count kept in
    rw (with_command-take n c.args.j s c.if-j-eq19.false (omega arith)) (keeps n s kept))
    (c.take_first.ensures c.args.draws.now)

pub returns-else-len-eq-MOST_IN_FORCE : goal.returns-else-len-eq-MOST_IN_FORCE
returns-else-len-eq-MOST_IN_FORCE c =
    on_ok_weaker c.put_next.result
    (λ keeps n s kept.
    let count = in_force-count kept in
    rw (with_command-put n c.args.j s c.if-j-eq19.false (λ full. absurd (omega arith))) (keeps n s kept))
    c.put_next.ensures
