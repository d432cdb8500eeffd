use Rattle.std.proofs.Common.{◌∷◌, arith, refl}
use Rattle.std.proofs.lemmas.List.Sorted.{Contains-permutation}
use Rattle.limit_profile.proofs.tests.holds.Goals as goal

pub remove-requires : goal.remove-requires
remove-requires c = Contains-permutation (c.args.zone ∷ _) _ c.args.zone c.add.ensures.zones (0, omega arith, refl)
