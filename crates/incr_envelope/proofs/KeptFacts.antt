-- What the fields of an envelope keep, and what contracts see of it.
use Rattle.std.proofs.Common.{◌≡◌, ℕ, ◌+◌, ◌-◌, ◌<◌, ◌≤◌, max, min, [], ◌∷◌, ◌++◌, List, length, slice_index, take, count_by, get_or-take, All, Some, Ok, is_some, nat_lt, inl, inr, ap, refl, subst, sym, ◌∙◌, arith}
use Rattle.std.proofs.Math.Seq.{take-length}
use Rattle.std.proofs.lemmas.Bool.{cases_Bool, lt-ltb}
use Rattle.std.proofs.lemmas.List.{length-take, length-take-le}
use Rattle.allowances.specs.Arrivals.{arrival, later, seconds_before}
use Rattle.plan_tables.specs.Plan.{PlanView}
use Rattle.time_brackets.proofs.SumFacts.{sum_over-same}
use Rattle.time_brackets.specs.declared.Bracket.{Bracket}
use Rattle.time_brackets.specs.Sums.{StandsFor, longest_at, shortest_at}
use Rattle.unit_rules.specs.Zone.{LiesOn}
use Rattle.unit_rules.specs.declared.Reach.{Reach}
use Rattle.unit_rules.specs.declared.Reach.TheVariants.{Whole, Stalled}
use Rattle.unit_rules.specs.declared.Zone.{Zone}
use Rattle.limit_profile.specs.Profile.{AreAlike, IsAdded, IsFreed, Profile, caps, rezoned}
use Rattle.plan_tables.specs.Bounds.{bounds_of}
use Rattle.plan_tables.specs.Plan.{PlanLiesOn}
use Rattle.run_rules.specs.Runs.{ReachesAs, StepRule}
use Rattle.run_rules.specs.Walks.{AgreeOutside, count_of}
use Rattle.stock_tables.specs.Stock.{IsStock, StockView}
use Rattle.case_rules.specs.Case.{case_profile, train_motion}
use Rattle.restrictions.specs.Force.{ForceView, IsForce, most_in_force, put_in, without, zone_of, zones_of}
use Rattle.step_rule.specs.Motion.{cells_of, most_of, step_rule_of}
use Rattle.incr_envelope.proofs.TouchedFacts.{StandsFor-known}
use Rattle.incr_envelope.proofs.ZoneFacts.{AgreeOutside-sym, AreSame-permutation, AreSame-put, AreSame-sym, AreSame-taken, caps_of-agree, caps_of-same, zones_lie-put, zones_lie-taken}
use Rattle.incr_envelope.specs.Envelope.{IsFromScratch, arrival_in, caps_under}
use Rattle.incr_envelope.specs.Kept.{AreLimits, Fields, IsKept, stock_in, view_of}
use Rattle.incr_envelope.specs.Runs.{IsFastest, WasFastest, known_in}
use Rattle.incr_envelope.specs.Zones.{AreSame}
use Rattle.incr_envelope.specs.declared.run.Run.{Run}

-- the limits have the caps of the case under what is in force
pub caps-kept : (f : Fields) → AreLimits f → caps f.limits ≡ caps_under f.line (stock_in f) f.plan f.force.pairs
caps-kept f limits = rw (limits.metres, limits.train, limits.bounds) (caps_of-same f.line.length f.train f.limits.top f.limits.zones (f.line.limits ++ zones_of f.force.pairs) (bounds_of f.plan f.line.length) limits.zones)

-- an envelope is one by its known numbers alone
pub ReachesAs-known : (rule : StepRule) (x e : List ℕ) (reach : Reach) (points : ℕ) → length e ≡ points → ReachesAs rule x e reach → ReachesAs rule x (take (count_of points reach) e) reach
ReachesAs-known rule x e Whole points long run = let all : take points e ≡ e = rw long at (take-length e) in rw all run
ReachesAs-known rule x e (Stalled k) points long (stall, envelope) =
    let twice : take k (take k e) ≡ take k e = rw envelope.long at (take-length (take k e)) in
    (stall, rw twice envelope)

-- so what is kept is as from scratch
pub IsFromScratch-fastest : (f : Fields) → PlanLiesOn f.line.length f.plan → All (LiesOn f.line.length) (zones_of f.force.pairs) → IsForce f.force → f.motion ≡ train_motion f.line (stock_in f) → AreLimits f
    → cells_of f.motion ≡ f.line.length → IsFastest (step_rule_of f.motion) (cells_of f.motion) (most_of f.motion) (caps f.limits) f.run → IsFromScratch (view_of f)
IsFromScratch-fastest f lies zones force motion limits cells fastest =
    let same = caps-kept f limits in
    let known = known_in f.line.length f.run in
    let holds = fastest.envelope in
    let speeds = f.run.speeds.items in
    let long : length speeds ≡ f.line.length + 1 = omega (arith, holds.same_points, holds.brakes.points, cells) in
    let stands : StandsFor f.run.sums speeds known = rw cells at fastest.sums in
    let counted : length (take known speeds) ≡ known = length-take-le known speeds stands.moving.listed in
    record {
      lies = lies;
      zones_lie = zones;
      distinct = force.distinct;
      few = force.few;
      brakes = rw (same, motion) at fastest.brakes;
      reaches = ReachesAs-known _ _ speeds f.run.reach (f.line.length + 1) long (rw (same, motion) at fastest.reaches);
      known = counted;
      sums = rw counted (StandsFor-known f.run.sums speeds known stands);
    }

-- the fields of an envelope that is made belong together
pub IsKept-made : (f : Fields) (stock : StockView) → f.mass ≡ stock.mass → f.train ≡ stock.length → f.motion ≡ train_motion f.line stock
    → AreAlike (case_profile f.line stock (zones_of f.force.pairs) (bounds_of f.plan f.line.length)) f.limits → f.spare ≡ 0 → IsStock stock → IsForce f.force
    → PlanLiesOn f.line.length f.plan → All (LiesOn f.line.length) (zones_of f.force.pairs) → cells_of f.motion ≡ f.line.length
    → IsFastest (step_rule_of f.motion) (cells_of f.motion) (most_of f.motion) (caps f.limits) f.run → IsKept f
IsKept-made f stock mass train motion limits spare is_stock is_force lies zones cells fastest =
    let same : stock_in f ≡ stock = rw (mass, train, motion, limits.rest) refl in
    let moves : f.motion ≡ train_motion f.line (stock_in f) = motion ∙ ap (train_motion f.line) (sym same) in
    let zones_in = f.line.limits ++ zones_of f.force.pairs in
    let are : AreLimits f = record {
      metres = rw limits.rest refl;
      train = rw (limits.rest, train) refl;
      bounds = rw limits.rest refl;
      zones = AreSame-sym zones_in f.limits.zones (AreSame-permutation zones_in f.limits.zones limits.zones);
    } in
    record {
      stock = subst IsStock (sym same) is_stock;
      force = is_force;
      motion = moves;
      cells = cells;
      limits = are;
      force_spare = omega (arith, spare);
      limits_spare = omega (arith, spare);
      fastest = fastest;
      scratch = IsFromScratch-fastest f lies zones is_force moves are cells fastest;
    }

-- where a zone is among the limits of one envelope more than of another, their caps agree but where it binds
caps-agree : (f : Fields) (more fewer : Profile) (z : Zone) → AreLimits f → more ≡ rezoned f.limits more.zones more.spare → fewer ≡ rezoned f.limits fewer.zones fewer.spare → AreSame more.zones (z ∷ fewer.zones)
    → AgreeOutside (caps more) (caps fewer) z.from (min f.line.length (z.to + f.train))
caps-agree f more fewer z limits a b same =
    rw (a, b, limits.metres, limits.train) (caps_of-agree f.line.length f.train f.limits.top more.zones fewer.zones z f.limits.bounds same)

-- limits with other zones, and some number of them spare
rezoned-own : (before after : Profile) (n : ℕ) → after ≡ rezoned before after.zones n → after ≡ rezoned before after.zones after.spare
rezoned-own before after n rest = rest ∙ ap (rezoned before after.zones) (sym (ap (λ (p : Profile). p.spare) rest))

-- what was the fastest run before a zone was put among the limits, or taken out of them
pub WasFastest-put : (f : Fields) (z : Zone) (limits : Profile) → IsKept f → IsAdded z f.limits limits
    → WasFastest (step_rule_of f.motion) (cells_of f.motion) (most_of f.motion) (caps limits) z.from (min f.line.length (z.to + f.train)) f.run
WasFastest-put f z limits kept added = record {
  older = caps f.limits;
  agree =
      let zones = AreSame-sym (z ∷ f.limits.zones) limits.zones (AreSame-permutation (z ∷ f.limits.zones) limits.zones added.zones) in
      let same = rezoned-own f.limits limits (f.limits.spare - 1) added.rest in
      AgreeOutside-sym (caps limits) (caps f.limits) _ _ (caps-agree f limits f.limits z kept.limits same refl zones);
  fastest = kept.fastest;
}

pub WasFastest-taken : (f : Fields) (z : Zone) (limits : Profile) → IsKept f → IsFreed z f.limits limits
    → WasFastest (step_rule_of f.motion) (cells_of f.motion) (most_of f.motion) (caps limits) z.from (min f.line.length (z.to + f.train)) f.run
WasFastest-taken f z limits kept freed = record {
  older = caps f.limits;
  agree =
      let same = rezoned-own f.limits limits (f.limits.spare + 1) freed.rest in
      caps-agree f f.limits limits z kept.limits refl same (AreSame-permutation f.limits.zones (z ∷ limits.zones) freed.zones);
  fastest = kept.fastest;
}

-- the fields belong together again once the run is made again under the zones that are in force
pub IsKept-changed : (f : Fields) (limits : Profile) (force : ForceView) (spare : ℕ) (run : Run) → IsKept f → limits ≡ rezoned f.limits limits.zones limits.spare
    → AreSame limits.zones (f.line.limits ++ zones_of force.pairs) → IsForce force → All (LiesOn f.line.length) (zones_of force.pairs) → spare ≤ force.spare → spare ≤ limits.spare
    → IsFastest (step_rule_of f.motion) (cells_of f.motion) (most_of f.motion) (caps limits) run
    → IsKept (record { line = f.line; plan = f.plan; mass = f.mass; train = f.train; motion = f.motion; limits = limits; force = force; spare = spare; run = run })
IsKept-changed f limits force spare run kept same zones is_force lie room limits_room fastest =
    let g : Fields = record { line = f.line; plan = f.plan; mass = f.mass; train = f.train; motion = f.motion; limits = limits; force = force; spare = spare; run = run } in
    let top : limits.top ≡ f.limits.top = ap (λ (p : Profile). p.top) same in
    let train : stock_in g ≡ stock_in f = rw top refl in
    let moves : f.motion ≡ train_motion f.line (stock_in g) = kept.motion ∙ ap (train_motion f.line) (sym train) in
    let are : AreLimits g = record {
      metres = ap (λ (p : Profile). p.length) same ∙ kept.limits.metres;
      train = ap (λ (p : Profile). p.train) same ∙ kept.limits.train;
      bounds = ap (λ (p : Profile). p.bounds) same ∙ kept.limits.bounds;
      zones = zones;
    } in
    record {
      stock = subst IsStock (sym train) kept.stock;
      force = is_force;
      motion = moves;
      cells = kept.cells;
      limits = are;
      force_spare = room;
      limits_spare = limits_room;
      fastest = fastest;
      scratch = IsFromScratch-fastest g kept.scratch.lies lie is_force moves are kept.cells fastest;
    }

-- so they do where there is room for more
pub IsKept-reserved : (f : Fields) (limits : Profile) (force : ForceView) (spare : ℕ) → IsKept f → limits ≡ rezoned f.limits f.limits.zones limits.spare → IsForce force → force.pairs ≡ f.force.pairs → spare ≤ force.spare → spare ≤ limits.spare
    → IsKept (record { line = f.line; plan = f.plan; mass = f.mass; train = f.train; motion = f.motion; limits = limits; force = force; spare = spare; run = f.run })
IsKept-reserved f limits force spare kept same is_force pairs room limits_room =
    let zones : limits.zones ≡ f.limits.zones = ap (λ (p : Profile). p.zones) same in
    let rezoned_same : limits ≡ rezoned f.limits limits.zones limits.spare = same ∙ ap (λ (zs : List Zone). rezoned f.limits zs limits.spare) (sym zones) in
    let those : AreSame limits.zones (f.line.limits ++ zones_of force.pairs) = λ test.
    ap (λ (zs : List Zone). count_by test zs) zones ∙ kept.limits.zones test ∙ ap (λ (ps : List (List ℕ × Zone)). count_by test (f.line.limits ++ zones_of ps)) (sym pairs) in
    let lie = subst (λ (ps : List (List ℕ × Zone)). All (LiesOn f.line.length) (zones_of ps)) (sym pairs) kept.scratch.zones_lie in
    let fastest = subst (λ (x : List ℕ). IsFastest (step_rule_of f.motion) (cells_of f.motion) (most_of f.motion) x f.run) (sym (ap caps same)) kept.fastest in
    IsKept-changed f limits force spare f.run kept rezoned_same those is_force lie room limits_room fastest

-- and where the limits alone have more room
pub IsKept-room : (f : Fields) (limits : Profile) (n : ℕ) → IsKept f → limits ≡ rezoned f.limits f.limits.zones (max f.limits.spare n) → IsKept (record f { limits = limits })
IsKept-room f limits n kept made =
    IsKept-reserved f limits f.force f.spare kept (rw made refl) kept.force refl kept.force_spare (rw made (omega (arith, kept.limits_spare)))

-- what is in force after a put that is accepted
pub put_in-pairs : (id : List ℕ) (z : Zone) (pairs after : List (List ℕ × Zone)) → put_in id z pairs ≡ Ok after → after ≡ pairs ++ (id, z) ∷ []
put_in-pairs id z pairs after e = elim (cases_Bool (is_some (zone_of id pairs))) [
  | inl there ↦ absurd (cc (rw there at e))
  | inr free ↦ elim (cases_Bool (nat_lt (length pairs) most_in_force)) [
    | inl room ↦ let ok = rw (free, room) at e in let same : pairs ++ (id, z) ∷ [] ≡ after = cc in sym same
    | inr full ↦ absurd (cc (rw (free, full) at e))
  ]
]

-- the fields belong together once a zone was put
pub IsKept-put : (f : Fields) (id : List ℕ) (z : Zone) (limits : Profile) (force : ForceView) (run : Run) → IsKept f → LiesOn f.line.length z
    → IsAdded z f.limits limits → put_in id z f.force.pairs ≡ Ok force.pairs → force.spare ≡ f.force.spare - 1 → IsForce force
    → IsFastest (step_rule_of f.motion) (cells_of f.motion) (most_of f.motion) (caps limits) run
    → IsKept (record { line = f.line; plan = f.plan; mass = f.mass; train = f.train; motion = f.motion; limits = limits; force = force; spare = f.spare - 1; run = run })
IsKept-put f id z limits force run kept lies added pairs room is_force fastest =
    let after = put_in-pairs id z f.force.pairs force.pairs pairs in
    let spare : limits.spare ≡ f.limits.spare - 1 = ap (λ (p : Profile). p.spare) added.rest in
    let same = rezoned-own f.limits limits (f.limits.spare - 1) added.rest in
    let put = AreSame-permutation (z ∷ f.limits.zones) limits.zones added.zones in
    let those : AreSame limits.zones (f.line.limits ++ zones_of force.pairs) = λ test.
    AreSame-put f.limits.zones limits.zones f.line.limits f.force.pairs id z put kept.limits.zones test ∙ ap (λ (ps : List (List ℕ × Zone)). count_by test (f.line.limits ++ zones_of ps)) (sym after) in
    let lie = subst (λ (ps : List (List ℕ × Zone)). All (LiesOn f.line.length) (zones_of ps)) (sym after) (zones_lie-put f.line.length f.force.pairs id z kept.scratch.zones_lie lies) in
    IsKept-changed f limits force (f.spare - 1) run kept same those is_force lie (omega (arith, room, kept.force_spare)) (omega (arith, spare, kept.limits_spare)) fastest

-- and once one was taken
pub IsKept-taken : (f : Fields) (id : List ℕ) (z : Zone) (limits : Profile) (force : ForceView) (run : Run) → IsKept f → zone_of id f.force.pairs ≡ Some z → IsFreed z f.limits limits
    → force ≡ record { pairs = without id f.force.pairs; spare = f.force.spare + 1 } → IsForce force
    → IsFastest (step_rule_of f.motion) (cells_of f.motion) (most_of f.motion) (caps limits) run
    → IsKept (record { line = f.line; plan = f.plan; mass = f.mass; train = f.train; motion = f.motion; limits = limits; force = force; spare = f.spare + 1; run = run })
IsKept-taken f id z limits force run kept at freed taken is_force fastest =
    let after : force.pairs ≡ without id f.force.pairs = ap (λ (v : ForceView). v.pairs) taken in
    let room : force.spare ≡ f.force.spare + 1 = ap (λ (v : ForceView). v.spare) taken in
    let spare : limits.spare ≡ f.limits.spare + 1 = ap (λ (p : Profile). p.spare) freed.rest in
    let same = rezoned-own f.limits limits (f.limits.spare + 1) freed.rest in
    let without_z = AreSame-permutation f.limits.zones (z ∷ limits.zones) freed.zones in
    let those : AreSame limits.zones (f.line.limits ++ zones_of force.pairs) = λ test.
    AreSame-taken f.limits.zones limits.zones f.line.limits f.force.pairs id z without_z kept.limits.zones kept.force.distinct at test ∙ ap (λ (ps : List (List ℕ × Zone)). count_by test (f.line.limits ++ zones_of ps)) (sym after) in
    let lie = subst (λ (ps : List (List ℕ × Zone)). All (LiesOn f.line.length) (zones_of ps)) (sym after) (zones_lie-taken f.line.length f.force.pairs id kept.scratch.zones_lie) in
    IsKept-changed f limits force (f.spare + 1) run kept same those is_force lie (omega (arith, room, kept.force_spare)) (omega (arith, spare, kept.limits_spare)) fastest

-- the train comes to a known point by the known numbers alone
pub arrival-known : (plan : PlanView) (e : List ℕ) (n i : ℕ) → i < n → arrival plan e i ≡ arrival plan (take n e) i
arrival-known plan e n i l =
    let same : (j : ℕ) → j < n → slice_index e j ≡ slice_index (take n e) j = λ j h. sym (get_or-take n e j 0 h) in
    let shortest = sum_over-same (shortest_at e) (shortest_at (take n e)) 0 i (λ j h m. rw (same j (omega arith), same (j + 1) (omega arith)) refl) in
    let longest = sum_over-same (longest_at e) (longest_at (take n e)) 0 i (λ j h m. rw (same j (omega arith), same (j + 1) (omega arith)) refl) in
    λ k. later (record { lo = shortest k; hi = longest k }) (seconds_before plan i)

pub arrival_in-known : (f : Fields) (i : ℕ) → i < length (view_of f).speeds → Some (arrival f.plan f.run.speeds.items i) ≡ arrival_in (view_of f) i
arrival_in-known f i l =
    let known = known_in f.line.length f.run in
    let few = length-take known f.run.speeds.items in
    rw (lt-ltb i (length (view_of f).speeds) l) (ap (λ (b : Bracket). Some b) (arrival-known f.plan f.run.speeds.items known i (omega (arith, few, l))))
