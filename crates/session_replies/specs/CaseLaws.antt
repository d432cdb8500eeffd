-- The run of a case: its numbers are small, no train is sooner, and it is the certificate of the case.
use Rattle.std.proofs.Common.{◌≡◌, ◌++◌, ℕ, ◌+◌, ◌-◌, ◌<◌, ◌≤◌, List, length, slice_index, take, get_or-take, All, arith, sym, ap, subst, ◌∙◌}
use Rattle.std.proofs.Math.Seq.{take-length}
use Rattle.std.proofs.lemmas.List.Elements.{All-from_get_or}
use Rattle.std.proofs.lemmas.List.FromFn.{get_or-map-range_with_len, length-map-range_with_len}
use Rattle.allowances.proofs.ArrivalFacts.{faster_is_no_later}
use Rattle.case_rules.specs.Case.{train_rule}
use Rattle.cert_check.proofs.OnceFacts.{right_certified}
use Rattle.cert_check.proofs.RuleFacts.{IsCapped}
use Rattle.cert_check.specs.Laws.{IsCertificateOf}
use Rattle.certificate.specs.Texts.{CertView, Fits32, HasPoint}
use Rattle.incr_envelope.proofs.TouchedFacts.{IsMoving-keeps}
use Rattle.incr_envelope.specs.Envelope.{caps_under}
use Rattle.limit_profile.proofs.LeastFacts.{least-le}
use Rattle.line_tables.specs.Line.{LineView}
use Rattle.plan_tables.specs.Bounds.{bounds_of}
use Rattle.plan_tables.specs.Plan.{PlanView}
use Rattle.restrictions.specs.Force.{zones_of}
use Rattle.run_rules.proofs.SpeedFacts.{squared-500, squared-mono}
use Rattle.run_rules.specs.Caps.{cap_at}
use Rattle.run_rules.specs.Runs.{AtMost, IsBrakingList, IsMonotone, Keeps, ReachesAs}
use Rattle.run_rules.specs.Speeds.{squared}
use Rattle.run_rules.specs.Walks.{count_of}
use Rattle.stock_tables.specs.Stock.{StockView}
use Rattle.unit_rules.specs.Limits.{greatest_speed, greatest_squared_speed, longest_line}
use Rattle.unit_rules.specs.declared.Reach.{Reach}
use Rattle.unit_rules.specs.declared.Reach.TheVariants.{Whole, Stalled}
use Rattle.unit_rules.specs.declared.Zone.{Zone}
use Rattle.session_replies.specs.Cases.{case_of}
use Rattle.session_replies.specs.Runs.{IsRunOf, NoneIsSooner}

-- the squares of speeds that a train may have are small
pub squared-small : (kmh : ℕ) → kmh ≤ greatest_speed → squared kmh ≤ greatest_squared_speed
squared-small kmh h = rw squared-500 at (squared-mono kmh 500 h)

pub length-caps_under : (line : LineView) (stock : StockView) (plan : PlanView) (force : List (List ℕ × Zone)) → length (caps_under line stock plan force) ≡ line.length + 1
length-caps_under line stock plan force =
    length-map-range_with_len (cap_at line.length stock.length stock.top (line.limits ++ zones_of force) (bounds_of plan line.length)) 0 (line.length + 1)

-- no cap is past the train's top speed
pub caps_under-le : (line : LineView) (stock : StockView) (plan : PlanView) (force : List (List ℕ × Zone)) (i : ℕ) → i < line.length + 1 → slice_index (caps_under line stock plan force) i ≤ squared stock.top
caps_under-le line stock plan force i h =
    rw (get_or-map-range_with_len (cap_at line.length stock.length stock.top (line.limits ++ zones_of force) (bounds_of plan line.length)) 0 (line.length + 1) i i 0 h (omega arith))
    (least-le (squared stock.top) _)

-- so the caps are in the range of the step rule
pub caps-IsCapped : (line : LineView) (stock : StockView) (plan : PlanView) (force : List (List ℕ × Zone)) → IsMonotone (train_rule line stock) line.length (squared stock.top)
    → IsCapped (train_rule line stock) (caps_under line stock plan force) (squared stock.top)
caps-IsCapped line stock plan force mono =
    let points = length-caps_under line stock plan force in
    let cells : length (caps_under line stock plan force) - 1 ≡ line.length = omega (arith, points) in
    record { mono = rw cells mono; small = λ i l. caps_under-le line stock plan force i (omega (arith, points, l)); some = omega (arith, points) }

-- no train that gets to the last of the first n points is there sooner than one that is nowhere slower
pub soonest : (line : LineView) (stock : StockView) (plan : PlanView) (force : List (List ℕ × Zone)) (e : List ℕ) (n : ℕ) → stock.top ≤ greatest_speed → n ≤ line.length + 1
    → ((q : List ℕ) → Keeps (train_rule line stock) (caps_under line stock plan force) q (n - 1) → AtMost q e n) → NoneIsSooner (case_of line stock plan force) e n
soonest line stock plan force e n fast on greatest = λ q keeps i l.
    let points = length-caps_under line stock plan force in
    let small = squared-small stock.top fast in
    let moving = IsMoving-keeps (train_rule line stock) (caps_under line stock plan force) q n (omega (arith, points, on)) (λ j h. let most = caps_under-le line stock plan force j (omega (arith, points, h)) in omega (arith, most, small)) keeps in
    faster_is_no_later plan q e n i moving (greatest q keeps) l

-- so none is sooner than an envelope, at any of its points
pub soonest-reaches : (line : LineView) (stock : StockView) (plan : PlanView) (force : List (List ℕ × Zone)) (e : List ℕ) (reach : Reach) → stock.top ≤ greatest_speed
    → ReachesAs (train_rule line stock) (caps_under line stock plan force) e reach → length e ≡ count_of (line.length + 1) reach → NoneIsSooner (case_of line stock plan force) e (length e)
soonest-reaches line stock plan force e Whole fast reaches known =
    let points = length-caps_under line stock plan force in
    let all : length (caps_under line stock plan force) ≡ length e = omega (arith, points, known) in
    subst (λ (n : ℕ). NoneIsSooner (case_of line stock plan force) e n) all
    (soonest line stock plan force e (length (caps_under line stock plan force)) fast (omega (arith, points)) reaches.greatest)
soonest-reaches line stock plan force e (Stalled k) fast reaches known =
    let points = length-caps_under line stock plan force in
    let all : take k e ≡ e = rw known at (take-length e) in
    let on = reaches.0.on_line.1 in
    subst (λ (n : ℕ). NoneIsSooner (case_of line stock plan force) e n) (sym known)
    (soonest line stock plan force e k fast (omega (arith, points, on)) (λ q keeps. rw all at (reaches.1.greatest q keeps)))

-- a run has no more numbers than the line has points
pub count-le : (line : LineView) (stock : StockView) (plan : PlanView) (force : List (List ℕ × Zone)) (e : List ℕ) (reach : Reach)
    → ReachesAs (train_rule line stock) (caps_under line stock plan force) e reach → count_of (line.length + 1) reach ≤ line.length + 1
count-le line stock plan force e Whole reaches = omega arith
count-le line stock plan force e (Stalled k) reaches = let points = length-caps_under line stock plan force in omega (arith, points, reaches.0.on_line.1)

-- numbers that are at most those of a braking list have 32 bits
pub braking-fits : (line : LineView) (stock : StockView) (plan : PlanView) (force : List (List ℕ × Zone)) (c : List ℕ) → stock.top ≤ greatest_speed
    → IsBrakingList (train_rule line stock) (caps_under line stock plan force) c → All Fits32 c
braking-fits line stock plan force c fast list = All-from_get_or Fits32 c 0 (λ i l.
    let points = length-caps_under line stock plan force in
    let long = list.keeps.same_points in
    let capped = list.keeps.capped i (omega (arith, long, l)) in
    let most = caps_under-le line stock plan force i (omega (arith, long, points, l)) in
    let small = squared-small stock.top fast in
    omega (arith, capped, most, small))

-- so have the speeds under them
pub speeds-fit : (line : LineView) (stock : StockView) (plan : PlanView) (force : List (List ℕ × Zone)) (e : List ℕ) (reach : Reach) → stock.top ≤ greatest_speed
    → ReachesAs (train_rule line stock) (caps_under line stock plan force) e reach → length e ≡ count_of (line.length + 1) reach → All Fits32 e
speeds-fit line stock plan force e Whole fast reaches known = All-from_get_or Fits32 e 0 (λ i l.
    let points = length-caps_under line stock plan force in
    let capped = reaches.run.capped i (omega (arith, points, known, l)) in
    let most = caps_under-le line stock plan force i (omega (arith, known, l)) in
    let small = squared-small stock.top fast in
    omega (arith, capped, most, small))
speeds-fit line stock plan force e (Stalled k) fast reaches known = All-from_get_or Fits32 e 0 (λ i l.
    let points = length-caps_under line stock plan force in
    let on = reaches.0.on_line.1 in
    let q = reaches.1.starts.0 in
    let same : slice_index q i ≡ slice_index e i =
    sym (get_or-take k q i 0 (omega (arith, known, l))) ∙ ap (λ (xs : List ℕ). slice_index xs i) reaches.1.starts.1 ∙ get_or-take k e i 0 (omega (arith, known, l)) in
    let capped = reaches.1.starts.2.capped i (omega (arith, points, known, l, on)) in
    let most = caps_under-le line stock plan force i (omega (arith, points, known, l, on)) in
    let small = squared-small stock.top fast in
    omega (arith, same, capped, most, small))

pub point-fits : (line : LineView) (stock : StockView) (plan : PlanView) (force : List (List ℕ × Zone)) (e : List ℕ) (reach : Reach) → line.length ≤ longest_line
    → ReachesAs (train_rule line stock) (caps_under line stock plan force) e reach → HasPoint reach
point-fits line stock plan force e Whole short reaches = tt
point-fits line stock plan force e (Stalled k) short reaches =
    let points = length-caps_under line stock plan force in
    omega (arith, points, short, reaches.0.on_line.1)

-- a certificate of a case is its run
pub IsRunOf-right : (line : LineView) (stock : StockView) (plan : PlanView) (force : List (List ℕ × Zone)) (run : CertView) → stock.top ≤ greatest_speed → line.length ≤ longest_line
    → IsMonotone (train_rule line stock) line.length (squared stock.top) → IsCertificateOf (train_rule line stock) (caps_under line stock plan force) run.c run.e run.verdict
    → IsRunOf (case_of line stock plan force) run
IsRunOf-right line stock plan force run fast short mono right =
    let x = caps_under line stock plan force in
    let points = length-caps_under line stock plan force in
    let known : length run.e ≡ count_of (line.length + 1) run.verdict = rw points at right.long in
    record {
      right = right;
      certified = right_certified (train_rule line stock) x run.c run.e run.verdict (squared stock.top) (caps-IsCapped line stock plan force mono) right;
      is_text = record {
        shorter = omega (arith, known, points, right.brakes.keeps.same_points, count-le line stock plan force run.e run.verdict right.reaches);
        braking = braking-fits line stock plan force run.c fast right.brakes;
        speeds = speeds-fit line stock plan force run.e run.verdict fast right.reaches known;
        point = point-fits line stock plan force run.e run.verdict short right.reaches;
      };
      soonest = soonest-reaches line stock plan force run.e run.verdict fast right.reaches known;
    }
