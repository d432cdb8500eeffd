use Rattle.std.proofs.Common.{◌≡◌, ◌≤◌, ◌++◌, All, drop, option_map}
use Rattle.stock_tables.specs.Curve.{IsRow}
use Rattle.stock_tables.specs.Key.{each, row_in}
use Rattle.stock_tables.proofs.document.rows.Given as goal

abbrev pub invariant-loop-pair : goal.invariant-loop-pair
invariant-loop-pair l = record {
  read : option_map (λ rs. l.rows.items ++ rs) (each (row_in l.low l.high) (drop l.pair-index l.pairs)) ≡ each (row_in l.low l.high) l.pairs;
  ranges : All IsRow l.rows.items;
  least : All (λ r. l.low ≤ r.value) l.rows.items;
}
