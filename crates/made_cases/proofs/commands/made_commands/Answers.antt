use Rattle.std.proofs.Common.{◌≡◌, arith}
use Rattle.made_cases.specs.Commands.{script}
use Rattle.made_cases.proofs.ScriptFacts.{IsKept-none, script-more}
use Rattle.made_cases.proofs.commands.made_commands.Goals as goal

pub loop-j-init : goal.loop-j-init
loop-j-init c = λ n state. IsKept-none n _ _ c.new.ensures.bytes c.new-2.ensures.items state

pub loop-j-preserved : goal.loop-j-preserved
loop-j-preserved c = λ n state.
    rw (script-more n c.loop-j.j) (c.in_ok-add.ensures n (script n c.loop-j.j) (c.loop-j.invariant n state))

pub returns : goal.returns
returns c = λ n state.
    let all : c.loop-j.j ≡ 2000 = omega arith in
    (rw all at (c.loop-j.invariant n state)).text
