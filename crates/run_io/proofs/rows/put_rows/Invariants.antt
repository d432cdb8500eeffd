use Rattle.std.proofs.Common.{◌≡◌, ◌≤◌, ◌+◌, ◌-◌, ◌*◌, length}
use Rattle.run_io.specs.Texts.{lines_from}
use Rattle.run_io.proofs.rows.put_rows.Given as goal

-- the rows from the place on stand on the block
abbrev pub invariant-loop-place : goal.invariant-loop-place
invariant-loop-place g l = record {
  least : l.from ≤ l.place;
  text : l.block ≡ lines_from (g.R.Rows.text l.rows) l.place (l.to - l.place);
  short : length l.block + 85 * l.place ≤ 85 * l.to;
  counts : g.R.Rows.counted l.counter ≡ g.R.Rows.counted l.fn.counter + g.R.Rows.cost * (l.to - l.place);
}
