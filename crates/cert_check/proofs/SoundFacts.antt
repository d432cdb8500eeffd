-- What is right at each point is the braking list and the envelope.
use Rattle.std.proofs.Common.{◌≡◌, ℕ, ◌+◌, ◌-◌, ◌<◌, ◌≤◌, List, length, slice_index, take, arith, subst}
use Rattle.unit_rules.specs.declared.Reach.{Reach}
use Rattle.unit_rules.specs.declared.Reach.TheVariants.{Whole, Stalled}
use Rattle.run_rules.specs.Runs.{IsBrakingList, IsEnvelopeTo, IsStalled, ReachesAs, StepRule}
use Rattle.run_rules.specs.Walks.{IsBlockedAfter, count_of}
use Rattle.run_rules.proofs.BrakingFacts.{braking_list_by_points}
use Rattle.run_rules.proofs.DrivingFacts.{IsDrivable, IsDriven, IsEnvelopeTo-driven, IsGreatestRun-driven}
use Rattle.run_rules.proofs.StallFacts.{IsStalled-blocked, ReachesAs-caps}
use Rattle.cert_check.specs.Laws.{IsCertificateOf}
use Rattle.cert_check.proofs.RuleFacts.{EndsThere, IsCapped, IsRightByPoints}

-- a train can be driven under a braking list
pub IsDrivable-caps : (rule : StepRule) (x c : List ℕ) (top : ℕ) → IsCapped rule x top → IsBrakingList rule x c → IsDrivable rule c
IsDrivable-caps rule x c top caps list =
    let same = list.keeps.same_points in
    let small : (i : ℕ) → i + 1 < length c → slice_index c i ≤ top = λ i l.
    let most = caps.small i (omega arith) in
    let capped = list.keeps.capped i (omega arith) in
    omega arith
    in
    record {
      up_rises = λ i u v l h m. let most = small i l in caps.mono.up_rises i u v (omega arith) h (omega arith);
      low_rises = λ i u v l h m. let most = small i l in caps.mono.low_rises i u v (omega arith) h (omega arith);
      low_le_up = λ i u l h. let most = small i l in caps.mono.low_le_up i u (omega arith) (omega arith);
      braked = λ i l. list.keeps.braked i (omega arith);
    }

-- driven speeds up to a point that none gets past are the envelope up to a stall there
stalled_there : (rule : StepRule) (c e : List ℕ) (i : ℕ) → IsDrivable rule c → IsDriven rule c e (i + 1) → i + 1 ≤ length e → i + 1 < length c → IsBlockedAfter rule c e i
    → IsStalled rule c (i + 1) × IsEnvelopeTo rule c (take (i + 1) e) (i + 1)
stalled_there rule c e i line driven long on blocked =
    (IsStalled-blocked rule c e i line driven long on blocked, IsEnvelopeTo-driven rule c e (i + 1) line driven long (omega arith) (omega arith))

reaches_there : (rule : StepRule) (x c e : List ℕ) (verdict : Reach) → IsDrivable rule c → length c ≡ length x → IsDriven rule c e (length e) → EndsThere rule x c e verdict → ReachesAs rule c e verdict
reaches_there rule x c e Whole line points driven ends =
    let all : length e ≡ length c = omega (arith, ends) in
    IsGreatestRun-driven rule c e line (rw all at driven) all
reaches_there rule x c e (Stalled k) line points driven ends =
    let some = ends.0 in
    let on = ends.1 in
    let long = ends.2 in
    let back : k - 1 + 1 ≡ k = omega arith in
    let all : length e ≡ k - 1 + 1 = omega arith in
    subst (λ n. IsStalled rule c n × IsEnvelopeTo rule c (take n e) n) back
    (stalled_there rule c e (k - 1) line (rw all at driven) (omega arith) (omega arith) ends.3)

long_there : (rule : StepRule) (x c e : List ℕ) (verdict : Reach) → EndsThere rule x c e verdict → length e ≡ count_of (length x) verdict
long_there rule x c e Whole ends = ends
long_there rule x c e (Stalled k) ends = ends.2

pub IsCertificateOf-right : (rule : StepRule) (x c e : List ℕ) (verdict : Reach) (top : ℕ) → IsCapped rule x top → IsRightByPoints rule x c e verdict → IsCertificateOf rule x c e verdict
IsCertificateOf-right rule x c e verdict top caps right =
    let list = braking_list_by_points rule x c right.points right.greatest in
    let line = IsDrivable-caps rule x c top caps list in
    record {
      brakes = list;
      reaches = ReachesAs-caps rule x c e verdict list (reaches_there rule x c e verdict line right.points right.driven right.ends);
      long = long_there rule x c e verdict right.ends;
    }
