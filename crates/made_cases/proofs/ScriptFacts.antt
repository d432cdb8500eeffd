-- The commands of a script, one after another.
use Rattle.std.proofs.Common.{◌≡◌, ◌+◌, ◌%◌, ℕ, [], ◌++◌, codes, length, string_bytes, arith, ap, add-one, length-drop}
use Rattle.std.proofs.lemmas.Bool.Decides.{nat_tests}
use Rattle.std.specs.Fmt.{decimal}
use Rattle.made_cases.specs.Commands.{Script, ask_time, put_next, put_row, script, take_first, with_command}
use Rattle.made_cases.specs.Draws.{draw, state_after}
use Rattle.made_cases.specs.Kept.{IsKept}
use Rattle.made_cases.specs.declared.commands.Script.{Script as Kept}
use Rattle.made_cases.specs.declared.draws.Draws.{Draws}

-- which command is added
pub with_command-time : (n j : ℕ) (s : Script) → j % 20 ≡ 19 → with_command n j s ≡ ask_time s
with_command-time n j s time = grind (arith, nat_tests)

pub with_command-take : (n j : ℕ) (s : Script) → (j % 20 ≡ 19 → ⊥) → length s.puts ≡ s.taken + 40 → with_command n j s ≡ take_first s
with_command-take n j s other full = grind (arith, nat_tests)

pub with_command-put : (n j : ℕ) (s : Script) → (j % 20 ≡ 19 → ⊥) → (length s.puts ≡ s.taken + 40 → ⊥) → with_command n j s ≡ put_next n j s
with_command-put n j s other room = grind (arith, nat_tests)

-- so many are in force as are put and not taken
pub in_force-count : {n : ℕ} {s : Script} {kept : Kept} {source : Draws} → IsKept n s kept source → length kept.in_force.items + s.taken ≡ length s.puts
in_force-count {s = s} kept = omega (arith, ap (length {A = ℕ}) kept.in_force, length-drop s.taken s.puts, kept.taken)

-- no command yet
pub IsKept-none : (n : ℕ) (kept : Kept) (source : Draws) → string_bytes kept.text ≡ [] → kept.in_force.items ≡ [] → source.state ≡ state_after n 150 → IsKept n (script n 0) kept source
unfolding script
IsKept-none n kept source text none state = record { text = text; in_force = none; taken = omega arith; state = state }

-- one command more
pub script-more : (n j : ℕ) → script n (j + 1) ≡ with_command n j (script n j)
unfolding script
script-more n j = rw (add-one j)

-- the row of a restriction by the numbers that are drawn
pub put_row-is : (n draws j from more kmh : ℕ) → from ≡ draw n draws 119000 → more ≡ draw n (draws + 1) 900 → kmh ≡ draw n (draws + 2) 90
    → put_row n draws j ≡ codes "put g" ++ decimal j ++ codes " " ++ decimal from ++ codes " " ++ decimal (from + 100 + more) ++ codes " " ++ decimal (30 + kmh) ++ codes "\n"
put_row-is n draws j from more kmh a b c = rw (a, b, c)
