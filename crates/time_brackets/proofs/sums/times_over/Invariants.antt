use Rattle.std.proofs.Common.{◌≡◌, ◌+◌, ◌-◌, slice_index}
use Rattle.time_brackets.specs.Sums.{HasSums}
use Rattle.time_brackets.proofs.sums.times_over.Given as goal

-- the sums are those over the cells so far
abbrev pub invariant-loop-i : goal.invariant-loop-i
invariant-loop-i g l = record {
  here : l.here.squared ≡ slice_index l.e l.i;
  sums : HasSums l.e l.from (l.i - l.from) l.sum;
  cost : l.steps + l.from ≡ l.fn.steps + l.i;
}
