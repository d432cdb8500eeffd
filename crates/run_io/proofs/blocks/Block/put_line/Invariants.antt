use Rattle.std.proofs.Common.{◌≡◌, ◌≤◌, ◌+◌, ◌-◌, ◌*◌, ◌++◌, drop, length}
use Rattle.run_io.specs.Texts.{lines_from, piece}
use Rattle.run_io.proofs.blocks.Block.put_line.Given as goal

-- the pieces from the place on stand before the text
abbrev pub invariant-loop-place : goal.invariant-loop-place
invariant-loop-place l = record {
  room : 21 * l.place ≤ l.at;
  within : l.at ≤ 65536;
  long : length l.self-inside.bytes ≡ 65536;
  short : 65536 + 21 * l.place ≤ l.at + length l.fn.self + 21 * length l.numbers + 1;
  text : drop l.at l.self-inside.bytes ≡ lines_from (piece l.numbers) l.place (length l.numbers + 1 - l.place) ++ l.fn.self;
}
