use Rattle.std.proofs.Common.{◌≡◌, ◌-◌, ◌<◌, ◌^◌, ◌-ℤ◌, ℕ, negsuc, to_z, of_z, arith}
use Rattle.std.specs.Int.{w64}
use Rattle.std.proofs.lemmas.Int.{ints}
use Rattle.unit_rules.proofs.numerals.below_zero.Goals as goal

below : (n : ℕ) → n < 2 ^ 63 → to_z w64 (of_z w64 (negsuc 0 -ℤ to_z w64 n)) ≡ negsuc n
below n h = omega (arith, ints)

pub returns-clause-value : goal.returns-clause-value
returns-clause-value c = (omega arith, below (c.args.size - 1) (omega arith))
