-- How far driven numbers get, and what that says under the caps that their braking list was made of.
use Rattle.std.proofs.Common.{◌≡◌, ℕ, ◌+◌, ◌-◌, ◌<◌, ◌≤◌, List, length, slice_index, take, arith, refl, subst, sym, inl, inr}
use Rattle.std.proofs.lemmas.Bool.{cases_lt}
use Rattle.std.proofs.lemmas.Bool.Decides.{nat_tests}
use Rattle.std.proofs.lemmas.Int.{ints}
use Rattle.unit_rules.specs.declared.Reach.{Reach}
use Rattle.unit_rules.specs.declared.Reach.TheVariants.{Whole, Stalled}
use Rattle.run_rules.specs.Drives.{IsOnlyReach, reach_of}
use Rattle.run_rules.specs.Runs.{IsBrakingList, IsEnvelopeTo, IsStalled, Keeps, ReachesAs, StepRule}
use Rattle.run_rules.specs.Walks.{EndsAt, IsBlockedAfter, count_of}
use Rattle.run_rules.proofs.BrakingFacts.{keeps_braking_list, keeps_caps}
use Rattle.run_rules.proofs.DrivingFacts.{IsDrivable, IsDriven, IsDriven-capped, IsDriven-most, IsEnvelopeTo-driven, IsGreatestRun-driven, joined, joined_keeps}
use Rattle.run_rules.proofs.RunFacts.{runs_or_stalls, stalls_once}

-- where driven numbers have no next one the train is stalled
pub IsStalled-blocked : (rule : StepRule) (c e : List ℕ) (i : ℕ) → IsDrivable rule c → IsDriven rule c e (i + 1) → i + 1 ≤ length e → i + 1 < length c → IsBlockedAfter rule c e i → IsStalled rule c (i + 1)
IsStalled-blocked rule c e i line driven long on blocked = record {
  on_line = (omega arith, on);
  none = λ q keeps.
      let most = IsDriven-most rule c e q (i + 1) (i + 1) line driven (omega arith) (omega arith) keeps i (omega arith) in
      let rises = line.up_rises i (slice_index q i) (slice_index e i) on most (IsDriven-capped rule c e (i + 1) driven i (omega arith)) in
      let drives = keeps.driven i (omega arith) in
      let moves = keeps.moving i (omega arith) in
      let stands = blocked (slice_index q (i + 1)) (keeps.capped (i + 1) on) (omega (arith, ints)) in
      omega arith;
  some = (joined e c (i + 1), joined_keeps rule c e (i + 1) line driven long (omega arith));
}

driven_at_end : (rule : StepRule) (c e : List ℕ) (n : ℕ) → EndsAt rule c e n → IsDriven rule c e n
driven_at_end rule c e n ends = record { first = ends.first; each = ends.each }

-- numbers that are driven to a point end there, where it is the last or no number follows
pub EndsAt-driven : (rule : StepRule) (c e : List ℕ) (i : ℕ) → IsDriven rule c e (i + 1) → i + 1 ≤ length c → (i + 1 < length c → IsBlockedAfter rule c e i) → EndsAt rule c e (i + 1)
EndsAt-driven rule c e i driven on blocked = record {
  some = omega arith;
  on_line = on;
  first = driven.first;
  each = driven.each;
  blocked = λ j last l. let at_i : j ≡ i = omega arith in rw at_i (blocked (omega arith));
}

stalled_after : (rule : StepRule) (c e : List ℕ) (i : ℕ) → IsDrivable rule c → length e ≡ length c → i + 1 < length c → EndsAt rule c e (i + 1) → IsStalled rule c (i + 1) × IsEnvelopeTo rule c (take (i + 1) e) (i + 1)
stalled_after rule c e i line same on ends =
    let driven = driven_at_end rule c e (i + 1) ends in
    (IsStalled-blocked rule c e i line driven (omega arith) on (ends.blocked i refl on), IsEnvelopeTo-driven rule c e (i + 1) line driven (omega arith) (omega arith) (omega arith))

stalled_at : (rule : StepRule) (c e : List ℕ) (n : ℕ) → IsDrivable rule c → length e ≡ length c → n < length c → EndsAt rule c e n → IsStalled rule c n × IsEnvelopeTo rule c (take n e) n
stalled_at rule c e n line same on ends =
    let some = ends.some in
    let back : n - 1 + 1 ≡ n = omega arith in
    subst (λ k. IsStalled rule c k × IsEnvelopeTo rule c (take k e) k) back (stalled_after rule c e (n - 1) line same (omega arith) (subst (λ k. EndsAt rule c e k) (sym back) ends))

reach_of-stalled : (points n : ℕ) → n < points → reach_of points n ≡ Stalled n
reach_of-stalled points n l = grind (arith, nat_tests)

reach_of-whole : (points n : ℕ) → points ≤ n → reach_of points n ≡ Whole
reach_of-whole points n l = grind (arith, nat_tests)

-- as many numbers as there are is how far the train gets
pub count_of-reach_of : (points n : ℕ) → n ≤ points → count_of points (reach_of points n) ≡ n
count_of-reach_of points n on =
    elim (cases_lt n points) [
      | inl l ↦ rw (reach_of-stalled points n l) refl
      | inr l ↦ rw (reach_of-whole points n l) (omega arith)
    ]

pub ReachesAs-ends : (rule : StepRule) (c e : List ℕ) (n : ℕ) → IsDrivable rule c → length e ≡ length c → EndsAt rule c e n → ReachesAs rule c e (reach_of (length c) n)
ReachesAs-ends rule c e n line same ends =
    elim (cases_lt n (length c)) [
      | inl l ↦ rw (reach_of-stalled (length c) n l) (stalled_at rule c e n line same l ends)
      | inr l ↦
          let on = ends.on_line in
          let all : n ≡ length c = omega arith in
          rw (reach_of-whole (length c) n l) (IsGreatestRun-driven rule c e line (rw all at (driven_at_end rule c e n ends)) same)
    ]

-- there is no other reach
pub IsOnlyReach-reaches : (rule : StepRule) (x e : List ℕ) (reach : Reach) → ReachesAs rule x e reach → IsOnlyReach rule x reach
IsOnlyReach-reaches rule x e Whole run = ((e, run.run), λ k stalled. runs_or_stalls rule x e k run.run stalled)
IsOnlyReach-reaches rule x e (Stalled k) stall = (stall.0, λ j stalled. stalls_once rule x j k stalled stall.0, λ q run. runs_or_stalls rule x q k run stall.0)

-- the envelope under a braking list is the envelope under its caps
pub ReachesAs-caps : (rule : StepRule) (x c e : List ℕ) (reach : Reach) → IsBrakingList rule x c → ReachesAs rule c e reach → ReachesAs rule x e reach
ReachesAs-caps rule x c e Whole list run =
    let long = list.keeps.same_points in
    let same : length c - 1 ≡ length x - 1 = omega arith in
    record {
      run = subst (λ k. Keeps rule x e k) same (keeps_caps rule x c e (length c - 1) list run.run);
      greatest = λ q keeps i l. run.greatest q (subst (λ k. Keeps rule c q k) (sym same) (keeps_braking_list rule x c q (length x - 1) list keeps)) i (omega arith);
    }
ReachesAs-caps rule x c e (Stalled k) list stall = (
  record {
    on_line = let long = list.keeps.same_points in (stall.0.on_line.0, omega (arith, stall.0.on_line.1));
    none = λ q keeps. stall.0.none q (keeps_braking_list rule x c q k list keeps);
    some = (stall.0.some.0, keeps_caps rule x c stall.0.some.0 (k - 1) list stall.0.some.1);
  },
  record {
    long = stall.1.long;
    starts = (stall.1.starts.0, stall.1.starts.1, keeps_caps rule x c stall.1.starts.0 (k - 1) list stall.1.starts.2);
    greatest = λ q keeps i l. stall.1.greatest q (keeps_braking_list rule x c q (k - 1) list keeps) i l;
  },
)
