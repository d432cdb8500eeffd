-- Elements of arrays, and what is read of each.
use Rattle.std.proofs.Common.{◌≡◌, List, [], ◌∷◌, map, Some, refl, sym, ap}
use Rattle.toml.specs.Data.{Data, as_array}
use Rattle.toml.specs.View.{view, items_of, items_view}
use Rattle.toml.specs.declared.value.Value.{Value}
use Rattle.stock_tables.specs.Key.{elements, list_of}

list_of-items_of : (ds : List Data) → list_of (items_of ds) ≡ ds
list_of-items_of [] = refl
list_of-items_of (d ∷ ds) = ap (λ (q : List Data). d ∷ q) (list_of-items_of ds)

pub elements-array : (d : Data) (vs : List Value) → Some (items_view vs) ≡ as_array d → Some (map view vs) ≡ elements d
elements-array d vs e = rw (← e) (ap (λ (q : List Data). Some q) (sym (list_of-items_of (map view vs))))
