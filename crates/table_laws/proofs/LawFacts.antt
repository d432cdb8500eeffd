-- A table that keeps its law at each whole km/h keeps it at each squared speed.
use Rattle.std.proofs.Common.{◌≡◌, ℕ, IsTrue, ◌+◌, ◌-◌, ◌*◌, ◌<◌, ℤ, pos, ◌≤ℤ◌, ◌+ℤ◌, ◌-ℤ◌, ◌*ℤ◌, List, sym, arith}
use Rattle.std.proofs.lemmas.Int.{ints}
use Rattle.unit_rules.proofs.FloorFacts.{floor_div-at_most}
use Rattle.run_rules.specs.Grids.{row, top_of, band_width, whole_kmh, value_at}
use Rattle.run_rules.specs.Speeds.{squared}
use Rattle.run_rules.proofs.SpeedFacts.{band_width-some}
use Rattle.run_rules.proofs.GridFacts.{kmh-below, value_at-band, whole_kmh-band}
use Rattle.table_laws.specs.Laws.{KeepsLaw, keeps_law_at, moves_within}
use Rattle.table_laws.specs.declared.Law.{Law}
use Rattle.table_laws.specs.declared.Law.TheVariants.{Drop, Climb}

-- one part more of a rise that drops by at most m in each part, and of one that climbs by at most m
part_drops : (z : ℤ) (part all m : ℕ) → pos 0 ≤ℤ (z +ℤ pos (m * all)) → (z *ℤ pos part) ≤ℤ (z *ℤ pos (part + 1) +ℤ pos (m * all))
part_drops z part all m h = omega (arith, ints)

part_climbs : (z : ℤ) (part all m : ℕ) → z ≤ℤ pos (m * all) → (z *ℤ pos (part + 1)) ≤ℤ (z *ℤ pos part +ℤ pos (m * all))
part_climbs z part all m h = omega (arith, ints)

-- within a band a value moves by no more than the law allows
value_at-moves : (law : Law) (rows : List ℤ) (k part : ℕ) → part < band_width k → IsTrue (keeps_law_at law rows k) → IsTrue (moves_within law 1 (value_at rows (squared k + part)) (value_at rows (squared k + (part + 1))))
unfolding moves_within
value_at-moves (Drop per) rows k part h l =
    let here = value_at-band rows k part (omega arith) in
    let next = value_at-band rows k (part + 1) (omega arith) in
    let z = row rows (k + 1) -ℤ row rows k in
    let f = floor_div-at_most (z *ℤ pos part) (z *ℤ pos (part + 1)) (band_width k) per (band_width-some k) (part_drops z part (band_width k) per (omega (arith, ints))) in
    sym (omega (arith, ints))
value_at-moves Climb rows k part h l =
    let here = value_at-band rows k part (omega arith) in
    let next = value_at-band rows k (part + 1) (omega arith) in
    let z = row rows (k + 1) -ℤ row rows k in
    let f = floor_div-at_most (z *ℤ pos (part + 1)) (z *ℤ pos part) (band_width k) 1 (band_width-some k) (part_climbs z part (band_width k) 1 (omega (arith, ints))) in
    sym (omega (arith, ints))

-- and so at every squared speed below the top speed's
pub value_at-keeps : (law : Law) (rows : List ℤ) → KeepsLaw law rows → (u : ℕ) → u < squared (top_of rows) → IsTrue (moves_within law 1 (value_at rows u) (value_at rows (u + 1)))
value_at-keeps law rows l u h =
    let b = whole_kmh-band u in
    let k = whole_kmh u in
    let part = u - squared k in
    let below = kmh-below k (top_of rows) (part + 1) (omega arith) (omega arith) in
    let v = value_at-moves law rows k part (omega arith) (l k below) in
    let here : squared k + part ≡ u = omega arith in
    let next : squared k + (part + 1) ≡ u + 1 = omega arith in
    rw (here, next) at v
