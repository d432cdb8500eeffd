-- What is kept of a script while it is made.
use Rattle.std.specs.Prelude.{ℕ, ◌≡◌, ◌≤◌, drop, length, string_bytes}
use Rattle.made_cases.specs.Commands.{Script}
use Rattle.made_cases.specs.Draws.{state_after}
use Rattle.made_cases.specs.declared.commands.Script.{Script as Kept}
use Rattle.made_cases.specs.declared.draws.Draws.{Draws}

-- a script is kept: its text, the numbers of the restrictions in force, and the state after its draws from n on
pub record IsKept (n : ℕ) (script : Script) (kept : Kept) (source : Draws) : Type 0 where
  pub text : string_bytes kept.text ≡ script.text
  pub in_force : kept.in_force.items ≡ drop script.taken script.puts
  pub taken : script.taken ≤ length script.puts
  pub state : source.state ≡ state_after n script.draws

-- of each script that was kept before, what a step makes is kept after
abbrev pub Keeps : (ℕ → Script → Script) → Kept → Draws → Kept → Draws → Type 0
Keeps step before old after new =
    (n : ℕ) (script : Script) → IsKept n script before old → IsKept n (step n script) after new
