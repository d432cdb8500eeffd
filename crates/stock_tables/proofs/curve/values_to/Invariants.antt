use Rattle.std.proofs.Common.{◌≡◌, map}
use Rattle.std.specs.List.{range_with_len}
use Rattle.stock_tables.specs.Curve.{curve_value}
use Rattle.stock_tables.specs.Walk.{IsPassed}
use Rattle.stock_tables.proofs.curve.values_to.Given as goal

abbrev pub invariant-loop-kmh : goal.invariant-loop-kmh
invariant-loop-kmh l = record {
  values : l.values.items ≡ map (curve_value l.rows) (range_with_len 0 l.kmh);
  place : IsPassed l.rows l.place l.kmh;
}
