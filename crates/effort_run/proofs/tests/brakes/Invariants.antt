use Rattle.std.proofs.Common.{ℕ, ◌+◌, ◌<◌, ◌≤◌, slice_index}
use Rattle.effort_run.proofs.tests.brakes.Given as goal

abbrev pub invariant-loop-i : goal.invariant-loop-i
invariant-loop-i l = record {
  braked : (j : ℕ) → j < l.i → slice_index l.c j ≤ slice_index l.c (j + 1) + 25920;
  in_range : (j : ℕ) → j < l.i → slice_index l.c j ≤ 36000000;
}
