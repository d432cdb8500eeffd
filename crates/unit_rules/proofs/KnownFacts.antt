-- Numbers of lists of which the first alone are known.
use Rattle.std.proofs.Common.{◌≡◌, ℕ, ◌<◌, List, slice_index, ap, arith, sym, ◌∙◌, Some, None}
use Rattle.std.proofs.lemmas.Bool.Decides.{nat_tests}
use Rattle.std.specs.Prelude.{if◌then◌else◌, nat_lt}
use Rattle.unit_rules.specs.Known.{AgreeAt, known_at}

pub known_at-known : (e : List ℕ) (n i : ℕ) → i < n → known_at e n i ≡ Some (slice_index e i)
known_at-known e n i l = grind (arith, nat_tests)

pub known_at-some : (e : List ℕ) (n i w : ℕ) → known_at e n i ≡ Some w → (i < n) × (slice_index e i ≡ w)
known_at-some e n i w h = grind (arith, nat_tests)

pub known_at-same : (d e : List ℕ) (n i : ℕ) → slice_index d i ≡ slice_index e i → known_at d n i ≡ known_at e n i
known_at-same d e n i h = ap (λ w. if nat_lt i n then Some w else None) h

-- a number that is known in one list is the same in the other
pub AgreeAt-number : (d e : List ℕ) (n m i : ℕ) → AgreeAt d n e m i → i < n → (i < m) × (slice_index e i ≡ slice_index d i)
AgreeAt-number d e n m i agree l = known_at-some e m i (slice_index d i) (sym agree ∙ known_at-known d n i l)
