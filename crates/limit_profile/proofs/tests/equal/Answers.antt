use Rattle.std.proofs.Common.{◌∷◌, [], arith, refl}
use Rattle.std.proofs.lemmas.List.Sorted.{Contains-permutation}
use Rattle.unit_rules.specs.declared.Zone.{Zone}
use Rattle.limit_profile.proofs.tests.equal.Goals as goal

pub remove-requires : goal.remove-requires
remove-requires g c =
    let slow : Zone = record { from = 3; to = 4; kmh = 2 } in
    let alike = rw c.expect-limits.ensures at c.new.ensures in
    Contains-permutation (slow ∷ slow ∷ []) _ slow alike.zones (0, omega arith, refl)
