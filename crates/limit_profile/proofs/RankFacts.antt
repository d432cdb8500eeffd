-- What the rank of a zone tells of it.
use Rattle.std.proofs.Common.{◌≡◌, ◌≤◌, ◌<◌, ◌+◌, ◌-◌, ◌^◌, ℕ, List, All, Contains, length, get_or, remove, ap, arith, inl, inr}
use Rattle.std.proofs.lemmas.Nat.{leading_length}
use Rattle.std.specs.Int.{leading_zeros, w32}
use Rattle.std.specs.List.Sorted.{IsNonDecreasingBy, IsPartitionPoint}
use Rattle.std.proofs.lemmas.Bool.{cases_lt}
use Rattle.std.proofs.lemmas.List.Edits.{get_or-remove_above, get_or-remove_below, length-remove}
use Rattle.unit_rules.specs.Limits.{longest_line}
use Rattle.unit_rules.specs.Zone.{LiesOn}
use Rattle.unit_rules.specs.declared.Zone.{Zone}
use Rattle.limit_profile.specs.Ranks.{class_of, first_rank_of, rank_of}

-- a zone is shorter than the next power of two
pub class-long : (length : ℕ) (z : Zone) → length ≤ longest_line → LiesOn length z → z.to < z.from + 2 ^ class_of z
unfolding class_of
class-long length z short lies =
    let rises = lies.rises in
    let (bits, count, below, _) = leading_length 32 (z.to - z.from) (omega (arith, lies.ends)) in
    let class : 32 - leading_zeros w32 (z.to - z.from) ≡ bits = omega (arith, count) in
    rw class (omega (arith, below))

-- zones of one rank are equal
pub rank-same : (y z : Zone) → LiesOn longest_line y → LiesOn longest_line z → rank_of y ≡ rank_of z → y ≡ z
unfolding rank_of
rank-same y z a b e =
    let class : class_of y ≡ class_of z = omega (arith, a.rises, a.ends, a.fast, b.rises, b.ends, b.fast) in
    let from : y.from ≡ z.from = omega (arith, a.rises, a.ends, a.fast, b.rises, b.ends, b.fast) in
    let to : y.to ≡ z.to = omega (arith, a.ends, a.fast, b.ends, b.fast) in
    let kmh : y.kmh ≡ z.kmh = omega arith in
    λ k. record { from = from k; to = to k; kmh = kmh k }

-- of zones of no lower rank than another's, those below the first of its class from a point on begin before the point
pub rank-before : (y z : Zone) (from : ℕ) → LiesOn longest_line y → LiesOn longest_line z → from ≤ longest_line → rank_of y ≤ rank_of z → rank_of z < first_rank_of (class_of y) from
    → (class_of z ≡ class_of y) × (z.from < from)
unfolding rank_of
rank-before y z from a b few least below =
    let class : class_of z ≡ class_of y = omega (arith, a.rises, a.ends, a.fast, b.rises, b.ends, b.fast) in
    (class, omega (arith, class))

-- and those below the next class begin no sooner
pub rank-past : (y z : Zone) → LiesOn longest_line y → LiesOn longest_line z → rank_of y ≤ rank_of z → rank_of z < first_rank_of (class_of y + 1) 0 → y.from ≤ z.from
unfolding rank_of
rank-past y z a b least below =
    let class : class_of z ≡ class_of y = omega (arith, a.rises, a.ends, a.fast, b.rises, b.ends, b.fast) in
    omega (arith, class, a.ends, a.fast, b.ends, b.fast)

-- zones by rank stay so without one of them
pub ranked-without : (zones : List Zone) (place : ℕ) → place < length zones → IsNonDecreasingBy rank_of zones → IsNonDecreasingBy rank_of (remove zones place)
ranked-without zones place l up i j d le lt =
    let long = length-remove zones place l in
    let below = λ (k : ℕ) (m : k < place). get_or-remove_below zones place d k m l in
    let above = λ (k : ℕ) (m : place ≤ k). get_or-remove_above zones place d k m l in
    elim (cases_lt j place) [
      | inl m ↦ rw (below i (omega arith), below j m) (up i j d le (omega arith))
      | inr m ↦ elim (cases_lt i place) [
        | inl n ↦ rw (below i n, above j m) (up i (j + 1) d (omega arith) (omega arith))
        | inr n ↦ rw (above i n, above j m) (up (i + 1) (j + 1) d (omega arith) (omega arith))
      ]
    ]

-- where a zone is among those by rank, it stands past those of lower rank
pub place-same : (zones : List Zone) (zone : Zone) (place : ℕ) → All (LiesOn longest_line) zones → Contains zones zone → IsNonDecreasingBy rank_of zones
    → IsPartitionPoint (λ z. rank_of z < rank_of zone) (λ z. rank_of zone ≤ rank_of z) zones place → (place < length zones) × (zone ≡ get_or zones place zone)
place-same zones zone place lie (k, l, is) up parts =
    let same = ap rank_of is in
    let there : place ≤ k = elim (cases_lt k place) [
      | inl m ↦ absurd (omega (arith, same, parts.0 k zone (omega arith) m))
      | inr m ↦ m
    ] in
    let inside : place < length zones = omega arith in
    let lies : LiesOn longest_line zone = rw is at (lie k zone l) in
    let ranks : rank_of zone ≡ rank_of (get_or zones place zone) = omega (arith, same, parts.1 place zone (omega arith) inside, up place k zone there l) in
    (inside, rank-same zone (get_or zones place zone) lies (lie place zone inside) ranks)

-- what lies on a line lies on the longest
pub lie-longest : (length : ℕ) (zones : List Zone) → length ≤ longest_line → All (LiesOn length) zones → All (LiesOn longest_line) zones
lie-longest length zones short lie k d l =
    let lies = lie k d l in
    record { rises = lies.rises; ends = omega (arith, lies.ends); slow = lies.slow; fast = lies.fast }
