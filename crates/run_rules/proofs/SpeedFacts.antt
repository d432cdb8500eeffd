-- How the squares of speeds compare.
use Rattle.std.proofs.Common.{◌≡◌, ℕ, ◌+◌, ◌*◌, ◌<◌, ◌≤◌, arith, mul-le-mul, refl}
use Rattle.run_rules.specs.Grids.{band_width}
use Rattle.run_rules.specs.Speeds.{squared}

-- the square of the next speed is one band further
pub squared-next : (k : ℕ) → squared (k + 1) ≡ squared k + band_width k
unfolding squared band_width
squared-next k = omega arith

pub squared-zero : squared 0 ≡ 0
unfolding squared
squared-zero = refl

pub squared-500 : squared 500 ≡ 2500000000
unfolding squared
squared-500 = refl

-- a faster speed has no smaller square
pub squared-mono : (a b : ℕ) → a ≤ b → squared a ≤ squared b
unfolding squared
squared-mono a b h = let p : a * a ≤ b * b = mul-le-mul h h in omega arith

-- a band is not empty
pub band_width-some : (k : ℕ) → 0 < band_width k
unfolding band_width
band_width-some k = omega arith
