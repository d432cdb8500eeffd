use Rattle.std.proofs.Common.{◌≡◌, ◌≤◌, ◌+◌, ◌*◌, ◌-◌, []}
use Rattle.run_io.specs.Texts.{lines_below}
use Rattle.run_io.specs.Told.{Writes}
use Rattle.run_io.proofs.rows.write_rows.Given as goal

-- the rows below `from` have gone
abbrev pub invariant-loop-from : goal.invariant-loop-from
invariant-loop-from g l = record {
  within : l.from ≤ l.count;
  empty : l.block ≡ [];
  gone : Writes (g.K.Sink.told l.fn.out) (g.K.Sink.told l.out) (lines_below (g.R.Rows.text l.rows) l.from);
  later : (g.K.Sink.told l.fn.out).faults ≤ (g.K.Sink.told l.out).faults;
  counts : g.R.Rows.counted l.counter ≡ g.R.Rows.counted l.fn.counter + g.R.Rows.cost * l.from;
}

abbrev pub decreases-loop-from : goal.decreases-loop-from
decreases-loop-from g l = l.count - l.from
