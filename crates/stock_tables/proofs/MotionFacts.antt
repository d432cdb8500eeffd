-- The tables of push and braking, in their ranges.
use Rattle.std.proofs.Common.{◌≡◌, ℕ, ◌+◌, ◌*◌, ◌^◌, ◌≤◌, ℤ, pos, neg_ℤ, ◌≤ℤ◌, ◌*ℤ◌, List, All, length, map, mul-le-mul, refl, ◌∙◌, arith, Result, Ok, Err, IfOk}
use Rattle.std.specs.List.{range_with_len}
use Rattle.std.proofs.lemmas.Int.{ints}
use Rattle.std.proofs.lemmas.List.FromFn.{get_or-map-range_with_len, length-map-range_with_len}
use Rattle.unit_rules.proofs.FloorFacts.{floor_div-most, floor_div-mono}
use Rattle.run_rules.specs.Grids.{row, top_of}
use Rattle.table_laws.specs.Laws.{BandTable, IsLawful, IsTable}
use Rattle.table_laws.specs.declared.Law.{Law}
use Rattle.stock_tables.specs.declared.StockFault.{StockFault}
use Rattle.stock_tables.specs.declared.curve.Row.{Row}
use Rattle.stock_tables.specs.declared.motion.Resistance.{Resistance}
use Rattle.stock_tables.specs.Curve.{IsCurveTo, curve_value, values_to}
use Rattle.stock_tables.specs.Motion.{IsResistance, brake_loss, brake_rows, net_push, push_rows, resistance_at}
use Rattle.stock_tables.specs.Rules.{brake_key, effort_key}
use Rattle.stock_tables.specs.Stock.{IsStrong, IsTableTo}
use Rattle.stock_tables.specs.StockFile.{lawful_table}
use Rattle.stock_tables.proofs.LawFacts.{lawful_table-ok}
use Rattle.stock_tables.proofs.ValueFacts.{IsValue, IsValue-at, map-values, top-slow}

resistance_at-most : (r : Resistance) (kmh : ℕ) → IsResistance r → kmh ≤ 500 → resistance_at r kmh ≤ 256000000000
resistance_at-most r kmh i h =
    let constant = i.constant in
    let linear : r.linear * kmh ≤ 10000000 * 500 = mul-le-mul i.linear h in
    let square : kmh * kmh ≤ 500 * 500 = mul-le-mul h h in
    let quadratic : r.quadratic * (kmh * kmh) ≤ 1000000 * (500 * 500) = mul-le-mul i.quadratic square in
    omega arith

net_push-most : (effort : ℤ) (against : ℕ) → IsValue 0 effort → against ≤ 256000000000 → net_push effort against ≤ℤ pos (10 ^ 15)
net_push-most effort against v h = let least = v.least in let most = v.most in omega (arith, ints)

net_push-least : (effort : ℤ) (against : ℕ) → IsValue 0 effort → against ≤ 256000000000 → neg_ℤ (pos (10 ^ 15)) ≤ℤ net_push effort against
net_push-least effort against v h = let least = v.least in let most = v.most in omega (arith, ints)

brake_loss-most : (rate : ℤ) → IsValue 50 rate → brake_loss rate ≤ℤ pos (10 ^ 15)
brake_loss-most rate v = let most = v.most in floor_div-most (pos 2592 *ℤ rate) 10 (10 ^ 15) (omega (arith, ints))

brake_loss-least : (rate : ℤ) → IsValue 50 rate → pos 12960 ≤ℤ brake_loss rate
brake_loss-least rate v = let least = v.least in floor_div-mono (pos 129600) (pos 2592 *ℤ rate) 10 (omega arith) (omega (arith, ints))

-- a list of what a function gives at each speed up to the top speed
module _ (f : ℕ → ℤ) (top : ℕ) where
  long : length (map f (range_with_len 0 (top + 1))) ≡ top + 1
  long = length-map-range_with_len f 0 (top + 1)

  at_speed : (k : ℕ) → k ≤ top → row (map f (range_with_len 0 (top + 1))) k ≡ f k
  at_speed k h = get_or-map-range_with_len f 0 (top + 1) k k (pos 0) (omega arith) (omega arith)

  top_of-map : top_of (map f (range_with_len 0 (top + 1))) ≡ top
  top_of-map = omega (arith, long)

  IsTable-map : 1 ≤ top → top ≤ 500 → ((k : ℕ) → k ≤ top → f k ≤ℤ pos (10 ^ 15)) → ((k : ℕ) → k ≤ top → neg_ℤ (pos (10 ^ 15)) ≤ℤ f k) → IsTable (map f (range_with_len 0 (top + 1)))
  IsTable-map some few most least = record {
    some = omega (arith, long);
    few = omega (arith, long);
    most = λ k h. let within : k ≤ top = omega (arith, long) in rw (at_speed k within) (most k within);
    least = λ k h. let within : k ≤ top = omega (arith, long) in rw (at_speed k within) (least k within);
  }

pub IsTable-push : (top : ℕ) (effort : List Row) (r : Resistance) → 1 ≤ top → IsCurveTo top effort → IsResistance r → IsTable (push_rows top effort r)
IsTable-push top effort r some c i =
    let few = top-slow top effort c in
    let value : (k : ℕ) → k ≤ top → IsValue 0 (curve_value effort k) = λ k h. IsValue-at 0 top effort k c (λ j d b. omega arith) h in
    let against : (k : ℕ) → k ≤ top → resistance_at r k ≤ 256000000000 = λ k h. resistance_at-most r k i (omega arith) in
    IsTable-map (λ k. net_push (curve_value effort k) (resistance_at r k)) top some few (λ k h. net_push-most (curve_value effort k) (resistance_at r k) (value k h) (against k h))
    (λ k h. net_push-least (curve_value effort k) (resistance_at r k) (value k h) (against k h))

pub IsTable-brake : (top : ℕ) (rates : List Row) → 1 ≤ top → IsCurveTo top rates → All (λ r. 50 ≤ r.value) rates → IsTable (brake_rows top rates)
IsTable-brake top rates some c strong =
    let few = top-slow top rates c in
    let value : (k : ℕ) → k ≤ top → IsValue 50 (curve_value rates k) = λ k h. IsValue-at 50 top rates k c strong h in
    IsTable-map (λ k. brake_loss (curve_value rates k)) top some few (λ k h. brake_loss-most (curve_value rates k) (value k h))
    (λ k h. let l = brake_loss-least (curve_value rates k) (value k h) in omega (arith, ints))

-- what is made of the computed values is made of the curve
pub push_rows-made : (top : ℕ) (effort : List Row) (r : Resistance) (efforts made : List ℤ) → efforts ≡ values_to top effort
    → made ≡ map (λ k. net_push (row efforts k) (resistance_at r k)) (range_with_len 0 (length efforts)) → made ≡ push_rows top effort r
push_rows-made top effort r efforts made e m = m ∙ map-values (λ k z. net_push z (resistance_at r k)) top effort efforts e

pub brake_rows-made : (top : ℕ) (rates : List Row) (values made : List ℤ) → values ≡ values_to top rates
    → made ≡ map (λ k. brake_loss (row values k)) (range_with_len 0 (length values)) → made ≡ brake_rows top rates
brake_rows-made top rates values made e m = m ∙ map-values (λ k z. brake_loss z) top rates values e

-- a table of such rows that was read is lawful up to the top speed
IsTableTo-read : (number top : ℕ) (law : Law) (f : ℕ → ℤ) (result : Result BandTable StockFault) → result ≡ lawful_table number law (map f (range_with_len 0 (top + 1))) → IfOk result IsLawful
    → IfOk result (IsTableTo top law)
IsTableTo-read number top law f (Err fault) e kept = tt
IsTableTo-read number top law f (Ok table) e kept =
    let same = lawful_table-ok number law (map f (range_with_len 0 (top + 1))) (Ok table) table e refl in
    record { ends = rw same (top_of-map f top); under = rw same refl; kept = kept }

pub IsTableTo-push : (top : ℕ) (law : Law) (effort : List Row) (r : Resistance) (result : Result BandTable StockFault) → result ≡ lawful_table effort_key law (push_rows top effort r) → IfOk result IsLawful
    → IfOk result (IsTableTo top law)
IsTableTo-push top law effort r = IsTableTo-read 5 top law (λ k. net_push (curve_value effort k) (resistance_at r k))

pub IsTableTo-brake : (top : ℕ) (law : Law) (rates : List Row) (result : Result BandTable StockFault) → result ≡ lawful_table brake_key law (brake_rows top rates) → IfOk result IsLawful → IfOk result (IsTableTo top law)
IsTableTo-brake top law rates = IsTableTo-read 7 top law (λ k. brake_loss (curve_value rates k))

pub IsStrong-brake : (top : ℕ) (law : Law) (rates : List Row) (result : Result BandTable StockFault) → result ≡ lawful_table brake_key law (brake_rows top rates) → IsCurveTo top rates
    → All (λ r. 50 ≤ r.value) rates → IfOk result (IsStrong top)
IsStrong-brake top law rates (Err fault) e c strong = tt
IsStrong-brake top law rates (Ok table) e c strong = λ k h.
    let same = lawful_table-ok brake_key law (brake_rows top rates) (Ok table) table e refl in
    rw (same, at_speed (λ j. brake_loss (curve_value rates j)) top k h) (brake_loss-least (curve_value rates k) (IsValue-at 50 top rates k c strong h))
