use Rattle.std.proofs.Common.{◌≡◌, ◌+◌, ◌++◌, codes, string_bytes}
use Rattle.made_cases.specs.Draws.{state_after}
use Rattle.made_cases.specs.Files.{gradient_row, limit_row, rows}
use Rattle.made_cases.proofs.files.made_line.Given as goal

-- the gradients so far
abbrev pub invariant-loop-j : goal.invariant-loop-j
invariant-loop-j l = record {
  text : string_bytes l.text ≡ codes "line,Gen,120000\n" ++ rows (gradient_row l.fn.draws.state) l.j;
  state : l.draws.state ≡ state_after l.fn.draws.state l.j;
}

-- all of them, and the limits so far
abbrev pub invariant-loop-j-2 : goal.invariant-loop-j-2
invariant-loop-j-2 l = record {
  text : string_bytes l.text ≡ codes "line,Gen,120000\n" ++ rows (gradient_row l.fn.draws.state) 120 ++ rows (limit_row l.fn.draws.state) l.j;
  state : l.draws.state ≡ state_after l.fn.draws.state (120 + l.j);
}
