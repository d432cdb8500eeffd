-- Zones in any order.
use Rattle.std.specs.Prelude.{◌≡◌, Bool, List, count_by}
use Rattle.unit_rules.specs.declared.Zone.{Zone}

-- two lists have the same zones, each as often: as many of them pass any test
abbrev pub AreSame : List Zone → List Zone → Type 0
AreSame xs ys = (test : Zone → Bool) → count_by test xs ≡ count_by test ys
