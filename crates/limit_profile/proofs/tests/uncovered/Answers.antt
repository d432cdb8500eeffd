use Rattle.std.proofs.Common.{◌∷◌, arith, refl}
use Rattle.std.proofs.lemmas.List.Sorted.{Contains-permutation}
use Rattle.unit_rules.specs.declared.Zone.{Zone}
use Rattle.limit_profile.proofs.tests.uncovered.Goals as goal

pub remove-requires : goal.remove-requires
remove-requires g c =
    let slower : Zone = record { from = 3; to = 4; kmh = 1 } in
    Contains-permutation (slower ∷ _) _ slower c.add-2.ensures.zones (0, omega arith, refl)
