use Rattle.std.proofs.Common.{◌*◌}
use Rattle.time_brackets.specs.Sums.{HasSums}
use Rattle.time_brackets.proofs.sums.Sums.upto.Given as goal

-- the sums are those over the blocks so far
abbrev pub invariant-loop-block : goal.invariant-loop-block
invariant-loop-block g l = HasSums l.e 0 (512 * l.block) l.sum
