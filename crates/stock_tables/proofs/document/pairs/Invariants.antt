use Rattle.std.proofs.Common.{◌≡◌, ◌++◌, drop, map, option_map}
use Rattle.toml.specs.View.{view}
use Rattle.stock_tables.specs.Key.{each, pair_of}
use Rattle.stock_tables.proofs.document.pairs.Given as goal

abbrev pub invariant-loop-value : goal.invariant-loop-value
invariant-loop-value l = option_map (λ ps. l.pairs.items ++ ps) (each pair_of (map view (drop l.value-index l.values))) ≡ each pair_of (map view l.values)
