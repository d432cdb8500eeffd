use Rattle.std.proofs.Common.{◌≡◌, ℕ}
use Rattle.made_cases.specs.Commands.{script}
use Rattle.made_cases.specs.Draws.{state_after}
use Rattle.made_cases.specs.Kept.{IsKept}
use Rattle.made_cases.proofs.commands.made_commands.Given as goal

-- the script of the commands so far is kept
abbrev pub invariant-loop-j : goal.invariant-loop-j
invariant-loop-j l = (n : ℕ) → l.fn.draws.state ≡ state_after n 150 → IsKept n (script n l.j) l.script l.draws
