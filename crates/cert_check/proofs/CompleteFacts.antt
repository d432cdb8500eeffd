-- The braking list and the envelope are right at each point.
use Rattle.std.proofs.Common.{◌≡◌, ℕ, ◌+◌, ◌-◌, ◌<◌, List, length, slice_index, take, arith, refl, subst, sym}
use Rattle.std.proofs.lemmas.List.{take_all}
use Rattle.unit_rules.specs.declared.Reach.{Reach}
use Rattle.unit_rules.specs.declared.Reach.TheVariants.{Whole, Stalled}
use Rattle.run_rules.specs.Runs.{IsBrakingList, IsEnvelopeTo, IsGreatestRun, IsStalled, Keeps, StepRule}
use Rattle.run_rules.specs.Walks.{IsBlockedAfter}
use Rattle.run_rules.proofs.BrakingFacts.{keeps_braking_list, keeps_caps, points_by_braking_list}
use Rattle.run_rules.proofs.DrivingFacts.{IsBlockedAfter-same, IsDrivable, IsDriven, IsDriven-same, joined, joined-before, joined_keeps}
use Rattle.run_rules.proofs.EnvelopeFacts.{IsBlockedAfter-stalled, IsDriven-envelope}
use Rattle.cert_check.specs.Laws.{IsCertificateOf}
use Rattle.cert_check.proofs.RuleFacts.{IsCapped, IsRightByPoints}
use Rattle.cert_check.proofs.SoundFacts.{IsDrivable-caps}

-- the envelope under caps is the envelope under their braking list
run_braking_list : (rule : StepRule) (x c e : List ℕ) → IsBrakingList rule x c → IsGreatestRun rule x e → IsGreatestRun rule c e
run_braking_list rule x c e list run =
    let long = list.keeps.same_points in
    let same : length x - 1 ≡ length c - 1 = omega arith in
    record {
      run = subst (λ k. Keeps rule c e k) same (keeps_braking_list rule x c e (length x - 1) list run.run);
      greatest = λ q keeps i l. run.greatest q (subst (λ k. Keeps rule x q k) (sym same) (keeps_caps rule x c q (length c - 1) list keeps)) i (omega arith);
    }

stall_braking_list : (rule : StepRule) (x c : List ℕ) (k : ℕ) → IsBrakingList rule x c → IsStalled rule x k → IsStalled rule c k
stall_braking_list rule x c k list stall = record {
  on_line = let long = list.keeps.same_points in (stall.on_line.0, omega (arith, stall.on_line.1));
  none = λ q keeps. stall.none q (keeps_caps rule x c q k list keeps);
  some = (stall.some.0, keeps_braking_list rule x c stall.some.0 (k - 1) list stall.some.1);
}

envelope_braking_list : (rule : StepRule) (x c e : List ℕ) (k : ℕ) → IsBrakingList rule x c → IsEnvelopeTo rule x e k → IsEnvelopeTo rule c e k
envelope_braking_list rule x c e k list envelope = record {
  long = envelope.long;
  starts = (envelope.starts.0, envelope.starts.1, keeps_braking_list rule x c envelope.starts.0 (k - 1) list envelope.starts.2);
  greatest = λ q keeps i l. envelope.greatest q (keeps_caps rule x c q (k - 1) list keeps) i l;
}

-- a whole run is driven to its end
driven_whole : (rule : StepRule) (c e : List ℕ) → IsDrivable rule c → 0 < length c → IsGreatestRun rule c e → IsDriven rule c e (length c)
driven_whole rule c e line some run =
    let long = run.run.same_points in
    let back : length c - 1 + 1 ≡ length c = omega arith in
    let before : length c - 1 ≡ length c - 1 + 1 - 1 = omega arith in
    let envelope : IsEnvelopeTo rule c e (length c - 1 + 1) = record {
      long = omega arith;
      starts = (e, take_all (length c - 1 + 1) e (omega arith), subst (λ k. Keeps rule c e k) before run.run);
      greatest = λ q keeps i l. run.greatest q (subst (λ k. Keeps rule c q k) (sym before) keeps) i (omega arith);
    } in
    subst (λ n. IsDriven rule c e n) back (IsDriven-envelope rule c e (length c - 1) line (omega arith) envelope)

-- at a stall it is driven to the point before, after which no speed follows; past its end the caps stand in its place
blocked_there : (rule : StepRule) (c e : List ℕ) (i : ℕ) → IsDrivable rule c → i + 1 < length c → length e ≡ i + 1 → IsDriven rule c e (i + 1) → IsStalled rule c (i + 1) → IsBlockedAfter rule c e i
blocked_there rule c e i line on long driven stall =
    let more = joined e c (i + 1) in
    let points = (joined_keeps rule c e (i + 1) line driven (omega arith) (omega arith)).same_points in
    let same : (j : ℕ) → j < i + 1 → slice_index more j ≡ slice_index e j = λ j l. joined-before e c (i + 1) j (omega arith) l in
    let driven_more = IsDriven-same rule c e more (i + 1) (omega arith) (λ j l. sym (same j l)) driven in
    IsBlockedAfter-same rule c c more e i refl (same i (omega arith)) (IsBlockedAfter-stalled rule c more i line on (omega arith) driven_more stall)

stall_there : (rule : StepRule) (c e : List ℕ) (i : ℕ) → IsDrivable rule c → length e ≡ i + 1 → IsStalled rule c (i + 1) → IsEnvelopeTo rule c (take (i + 1) e) (i + 1) → IsDriven rule c e (i + 1) × IsBlockedAfter rule c e i
stall_there rule c e i line long stall envelope =
    let on = stall.on_line.1 in
    let all : take (i + 1) e ≡ e = take_all (i + 1) e (omega arith) in
    let driven = IsDriven-envelope rule c e i line (omega arith) (rw all at envelope) in
    (driven, blocked_there rule c e i line on long driven stall)

pub IsRightByPoints-certificate : (rule : StepRule) (x c e : List ℕ) (verdict : Reach) (top : ℕ) → IsCapped rule x top → IsCertificateOf rule x c e verdict → IsRightByPoints rule x c e verdict
IsRightByPoints-certificate rule x c e Whole top caps cert =
    let points = cert.brakes.keeps.same_points in
    let some = caps.some in
    let all : length c ≡ length e = omega (arith, cert.long) in
    record {
      points = points;
      few = omega (arith, cert.long);
      greatest = points_by_braking_list rule x c cert.brakes;
      driven = rw all at (driven_whole rule c e (IsDrivable-caps rule x c top caps cert.brakes) (omega arith) (run_braking_list rule x c e cert.brakes cert.reaches));
      ends = cert.long;
    }
IsRightByPoints-certificate rule x c e (Stalled k) top caps cert =
    let points = cert.brakes.keeps.same_points in
    let some = cert.reaches.0.on_line.0 in
    let on = cert.reaches.0.on_line.1 in
    let long : length e ≡ k = cert.long in
    let back : k ≡ k - 1 + 1 = omega arith in
    let stall = stall_braking_list rule x c k cert.brakes cert.reaches.0 in
    let envelope = envelope_braking_list rule x c (take k e) k cert.brakes cert.reaches.1 in
    let both = subst (λ n. IsStalled rule c n × IsEnvelopeTo rule c (take n e) n) back (stall, envelope) in
    let there = stall_there rule c e (k - 1) (IsDrivable-caps rule x c top caps cert.brakes) (omega arith) both.0 both.1 in
    let all : k - 1 + 1 ≡ length e = omega arith in
    record {
      points = points;
      few = omega arith;
      greatest = points_by_braking_list rule x c cert.brakes;
      driven = rw all at there.0;
      ends = (some, on, long, there.1);
    }
