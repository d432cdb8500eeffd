-- The envelope is driven as fast as its caps allow: what is greatest among all lists is the greatest at each point.
use Rattle.std.proofs.Common.{◌≡◌, ℕ, zero, suc, ◌+◌, ◌-◌, ◌<◌, ◌≤◌, min, ℤ, pos, negsuc, ◌≤ℤ◌, List, length, slice_index, take, set, ap, arith, refl, subst, sym, ◌∙◌, length-set, inl, inr}
use Rattle.std.proofs.lemmas.Bool.{cases_lt}
use Rattle.std.proofs.lemmas.Int.{ints}
use Rattle.std.proofs.lemmas.List.{get_or-take, take_all}
use borrow.Author.Differences.{up}
use Rattle.run_rules.specs.Runs.{IsEnvelopeTo, IsGreatestRun, IsStalled, Keeps, StepRule}
use Rattle.run_rules.specs.Walks.{EndsAt, IsBlockedAfter, IsNextNumber}
use Rattle.run_rules.proofs.DrivingFacts.{IsDrivable, IsDriven, IsDriven-capped, IsDriven-most, IsDriven-same, IsDriven-set, joined, joined-before, joined_keeps}
use Rattle.run_rules.proofs.StallFacts.{EndsAt-driven}

-- a number that is not below 0 is no less than the numbers up to it
up-least : (z : ℤ) (n w : ℕ) → pos n ≤ℤ z → w ≤ up z → pos w ≤ℤ z
up-least (pos m) n w h l = omega (arith, ints)
up-least (negsuc m) n w h l = absurd (omega (arith, ints))

-- the greatest number that the caps and full effort allow after cell i, if there is one
next_number : StepRule → List ℕ → List ℕ → ℕ → ℕ
next_number rule c e i = min (slice_index c (i + 1)) (up (rule.up i (slice_index e i)))

-- where there is some number after cell i that is not a second standstill, there is a greatest
IsNextNumber-some : (rule : StepRule) (c e : List ℕ) (i u : ℕ) → u ≤ slice_index c (i + 1) → pos u ≤ℤ rule.up i (slice_index e i) → 1 ≤ slice_index e i + u → IsNextNumber rule c e i (next_number rule c e i)
unfolding next_number
IsNextNumber-some rule c e i u capped drives moves = record {
  capped = omega arith;
  driven = up-least (rule.up i (slice_index e i)) u (min (slice_index c (i + 1)) (up (rule.up i (slice_index e i)))) drives (omega arith);
  moving = omega (arith, ints);
  greatest = λ v h k. omega (arith, ints);
}

-- where some list keeps the rule up to point k, numbers that are driven as far as a point before have a next one
next_kept : (rule : StepRule) (c e q : List ℕ) (k i : ℕ) → IsDrivable rule c → k < length c → Keeps rule c q k → i < k → IsDriven rule c e (i + 1) → IsNextNumber rule c e i (next_number rule c e i)
next_kept rule c e q k i line on keeps l driven =
    let most = IsDriven-most rule c e q (i + 1) k line driven (omega arith) (omega arith) keeps i (omega arith) in
    let capped = IsDriven-capped rule c e (i + 1) driven i (omega arith) in
    let rises = line.up_rises i (slice_index q i) (slice_index e i) (omega arith) most capped in
    let drives = keeps.driven i l in
    let moves = keeps.moving i l in
    IsNextNumber-some rule c e i (slice_index q (i + 1)) (keeps.capped (i + 1) (omega arith)) (omega (arith, ints)) (omega arith)

-- so there are numbers that are driven up to k
IsDriven-kept : (rule : StepRule) (c q : List ℕ) (k : ℕ) → IsDrivable rule c → k < length c → Keeps rule c q k → (n : ℕ) → n ≤ k → (e : List ℕ) × (length e ≡ length c) × IsDriven rule c e (n + 1)
IsDriven-kept rule c q k line on keeps zero l = (c, refl, record { first = refl; each = λ i h. absurd (omega arith) })
IsDriven-kept rule c q k line on keeps (suc n) l =
    let before = IsDriven-kept rule c q k line on keeps n (omega arith) in
    let number = next_kept rule c before.0 q k n line on keeps (omega arith) before.2 in
    let long = before.1 in
    let more = IsDriven-set rule c before.0 n (next_number rule c before.0 n) (omega arith) before.2 number in
    let counted : n + 1 + 1 ≡ suc n + 1 = omega arith in
    (set before.0 (n + 1) (next_number rule c before.0 n), length-set before.0 (n + 1) (next_number rule c before.0 n) ∙ long, subst (λ m. IsDriven rule c (set before.0 (n + 1) (next_number rule c before.0 n)) m) counted more)

-- and the envelope has those numbers
pub IsDriven-envelope : (rule : StepRule) (c e : List ℕ) (k : ℕ) → IsDrivable rule c → k < length c → IsEnvelopeTo rule c e (k + 1) → IsDriven rule c e (k + 1)
IsDriven-envelope rule c e k line on envelope =
    let back : k + 1 - 1 ≡ k = omega arith in
    let q = envelope.starts.0 in
    let keeps : Keeps rule c q k = rw back at envelope.starts.2 in
    let found = IsDriven-kept rule c q k line on keeps k (omega arith) in
    let long = found.1 in
    let found_keeps = joined_keeps rule c found.0 (k + 1) line found.2 (omega arith) (omega arith) in
    IsDriven-same rule c found.0 e (k + 1) (omega arith) (λ i l.
    let above = envelope.greatest (joined found.0 c (k + 1)) found_keeps i l in
    let same = joined-before found.0 c (k + 1) i (omega arith) l in
    let at_q : slice_index e i ≡ slice_index q i = ap (λ xs. slice_index xs i) (sym envelope.starts.1) ∙ get_or-take (k + 1) q i 0 l in
    let below = IsDriven-most rule c found.0 q (k + 1) k line found.2 (omega arith) (omega arith) keeps i l in
    omega arith) found.2

-- at a stall there is no next number
pub IsBlockedAfter-stalled : (rule : StepRule) (c e : List ℕ) (i : ℕ) → IsDrivable rule c → i + 1 < length c → i + 1 < length e → IsDriven rule c e (i + 1) → IsStalled rule c (i + 1) → IsBlockedAfter rule c e i
IsBlockedAfter-stalled rule c e i line on long driven stalled u h k =
    elim (cases_lt (u + slice_index e i) 1) [
      | inl l ↦ l
      | inr l ↦
          let w = next_number rule c e i in
          let more = IsDriven-set rule c e i w long driven (IsNextNumber-some rule c e i u h k (omega arith)) in
          let same = length-set e (i + 1) w in
          let keeps = joined_keeps rule c (set e (i + 1) w) (i + 1 + 1) line more (omega arith) (omega arith) in
          let back : i + 1 + 1 - 1 ≡ i + 1 = omega arith in
          absurd (stalled.none (joined (set e (i + 1) w) c (i + 1 + 1)) (rw back at keeps))
    ]

-- the greatest run is the envelope up to the end of the line
IsEnvelopeTo-run : (rule : StepRule) (c e : List ℕ) (k : ℕ) → length c ≡ k + 1 → length e ≡ length c → IsGreatestRun rule c e → IsEnvelopeTo rule c e (k + 1)
IsEnvelopeTo-run rule c e k points same run =
    let back : length c - 1 ≡ k + 1 - 1 = omega arith in
    record {
      long = omega arith;
      starts = (e, take_all (k + 1) e (omega arith), rw back at run.run);
      greatest = λ q keeps i l. run.greatest q (rw (← back) at keeps) i (omega arith);
    }

-- so an envelope ends where its run does, or its stall is
pub EndsAt-envelope : (rule : StepRule) (c e : List ℕ) (k : ℕ) → IsDrivable rule c → length e ≡ length c → k < length c → (k + 1 ≡ length c → IsGreatestRun rule c e)
    → (k + 1 < length c → IsStalled rule c (k + 1) × IsEnvelopeTo rule c (take (k + 1) e) (k + 1)) → EndsAt rule c e (k + 1)
EndsAt-envelope rule c e k line same on whole stalled =
    elim (cases_lt (k + 1) (length c)) [
      | inl l ↦
          let stall = stalled l in
          let taken = IsDriven-envelope rule c (take (k + 1) e) k line on stall.1 in
          let driven = IsDriven-same rule c (take (k + 1) e) e (k + 1) (omega arith) (λ i h. get_or-take (k + 1) e i 0 h) taken in
          EndsAt-driven rule c e k driven (omega arith) (λ h. IsBlockedAfter-stalled rule c e k line l (omega arith) driven stall.0)
      | inr l ↦
          let driven = IsDriven-envelope rule c e k line on (IsEnvelopeTo-run rule c e k (omega arith) same (whole (omega arith))) in
          EndsAt-driven rule c e k driven (omega arith) (λ h. absurd (omega arith))
    ]
