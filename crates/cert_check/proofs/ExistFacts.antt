-- There is a certificate: the braking list from the last point down, and the envelope from the first point up.
use Rattle.std.proofs.Common.{◌≡◌, ℕ, zero, suc, ◌+◌, ◌-◌, ◌<◌, ◌≤◌, min, ℤ, pos, negsuc, ◌≤ℤ◌, ◌⊎◌, List, length, slice_index, set, take, arith, refl, sym, ◌∙◌, inl, inr, length-set}
use Rattle.std.proofs.lemmas.Bool.{cases_lt}
use Rattle.std.proofs.lemmas.Int.{by_lt_z, ints}
use Rattle.std.proofs.lemmas.List.{get_or-take, length-take-le}
use Rattle.unit_rules.specs.declared.Reach.{Reach}
use Rattle.unit_rules.specs.declared.Reach.TheVariants.{Whole, Stalled}
use Rattle.run_rules.specs.Runs.{IsMonotone, StepRule}
use Rattle.run_rules.specs.Walks.{IsBlocked, IsBlockedAfter, IsGreatestNumber, IsNext}
use Rattle.run_rules.proofs.BrakingFacts.{IsGreatestFrom, IsGreatestFrom-set}
use Rattle.run_rules.proofs.DrivingFacts.{IsDriven, IsDriven-same, IsDriven-set}
use Rattle.cert_check.specs.Laws.{CertifiedExist}
use Rattle.cert_check.proofs.RuleFacts.{EndsThere, IsCertified-right}

-- from squared speed u at point i the train brakes to what c has at the next point of the line, if there is one
abbrev Brakes : StepRule → List ℕ → List ℕ → ℕ → ℕ → Type 0
Brakes rule x c i u = i + 1 < length x → rule.low i u ≤ℤ pos (slice_index c (i + 1))

-- where no number past v brakes, there is a greatest that does, as 0 does
greatest_up_to : (rule : StepRule) (x c : List ℕ) (i v : ℕ) → Brakes rule x c i 0 → v ≤ slice_index x i
    → ((w : ℕ) → w ≤ slice_index x i → Brakes rule x c i w → w ≤ v) → (u : ℕ) × IsGreatestNumber rule x c i u
greatest_up_to rule x c i zero stops capped most = (0, record { capped = capped; braked = stops; greatest = most })
greatest_up_to rule x c i (suc v) stops capped most =
    elim (cases_lt (i + 1) (length x)) [
      | inl on ↦ by_lt_z (pos (slice_index c (i + 1))) (rule.low i (suc v))
          (λ late. greatest_up_to rule x c i v stops (omega arith) (λ w h brakes.
          elim (cases_lt v w) [
            | inl more ↦
                let last : w ≡ suc v = let l = most w h brakes in omega arith in
                let braked = brakes on in
                absurd (omega (arith, ints, rw last at braked))
            | inr g ↦ g
          ]))
          (λ brakes. (suc v, record { capped = capped; braked = λ l. brakes; greatest = most }))
      | inr off ↦ (suc v, record { capped = capped; braked = λ l. absurd (omega arith); greatest = most })
    ]

-- so there is a list with the greatest number at each point from p on, n points before the end
greatest_from : (rule : StepRule) (x : List ℕ) (top : ℕ) → IsMonotone rule (length x - 1) top → (n p : ℕ) → p + n ≡ length x → (c : List ℕ) × ((length c ≡ length x) × IsGreatestFrom rule x c p)
greatest_from rule x top mono zero p e = (x, (refl, λ i h l. absurd (omega arith)))
greatest_from rule x top mono (suc n) p e =
    let after = greatest_from rule x top mono n (p + 1) (omega arith) in
    let c = after.0 in
    let same = after.1.0 in
    let number = greatest_up_to rule x c p (slice_index x p) (λ on. let stops = mono.stops p (omega arith) in omega (arith, ints)) (omega arith) (λ w h brakes. h) in
    let long = length-set c p number.0 in
    (set c p number.0, (omega arith, IsGreatestFrom-set rule x c p number.0 same (omega arith) after.1.1 number.1))

-- a speed follows, or none can
next_or_blocked : (now : ℕ) (up : ℤ) (cap : ℕ) → ((w : ℕ) × IsNext now up cap w) ⊎ IsBlocked now up cap
next_or_blocked now (pos most) cap =
    elim (cases_lt (now + min cap most) 1) [
      | inl stands ↦ inr (λ u h drives. omega (arith, ints))
      | inr moves ↦ inl (min cap most, record { capped = omega arith; driven = omega (arith, ints); moving = moves; greatest = λ u h drives. omega (arith, ints) })
    ]
next_or_blocked now (negsuc less) cap = inr (λ u h drives. absurd (omega (arith, ints)))

-- speeds that are driven as far as they go, and end where the verdict says
record IsEnded (rule : StepRule) (x c e : List ℕ) (verdict : Reach) : Type 0 where
  few : length e ≤ length x
  driven : IsDriven rule c e (length e)
  ends : EndsThere rule x c e verdict

taken_driven : (rule : StepRule) (c e : List ℕ) (n : ℕ) → 1 ≤ n → n ≤ length e → IsDriven rule c e n → IsDriven rule c (take n e) (length (take n e))
taken_driven rule c e n some long driven = rw (length-take-le n e long) (IsDriven-same rule c e (take n e) n some (λ i l. sym (get_or-take n e i 0 l)) driven)

IsEnded-blocked : (rule : StepRule) (x c e : List ℕ) (i : ℕ) → length e ≡ length x → i + 1 < length x → IsDriven rule c e (i + 1) → IsBlockedAfter rule c e i → IsEnded rule x c (take (i + 1) e) (Stalled (i + 1))
IsEnded-blocked rule x c e i same on driven blocked =
    let long = length-take-le (i + 1) e (omega arith) in
    let back : i + 1 - 1 ≡ i = omega arith in
    record {
      few = omega arith;
      driven = taken_driven rule c e (i + 1) (omega arith) (omega arith) driven;
      ends = (omega arith, on, long, rw (back, get_or-take (i + 1) e i 0 (omega arith)) blocked);
    }

-- so speeds that are driven to point i, n points before the last, go on to an end
ended_from : (rule : StepRule) (x c e : List ℕ) (n i : ℕ) → length e ≡ length x → i + n + 1 ≡ length x → IsDriven rule c e (i + 1) → (f : List ℕ) × ((verdict : Reach) × IsEnded rule x c f verdict)
ended_from rule x c e zero i same last driven =
    let all : i + 1 ≡ length e = omega arith in
    (e, (Whole, record { few = omega arith; driven = rw all at driven; ends = same }))
ended_from rule x c e (suc n) i same last driven =
    elim (next_or_blocked (slice_index e i) (rule.up i (slice_index e i)) (slice_index c (i + 1))) [
      | inl next ↦ ended_from rule x c (set e (i + 1) next.0) n (i + 1) (length-set e (i + 1) next.0 ∙ same) (omega arith) (IsDriven-set rule c e i next.0 (omega arith) driven next.1)
      | inr blocked ↦ (take (i + 1) e, (Stalled (i + 1), IsEnded-blocked rule x c e i same (omega arith) driven blocked))
    ]

pub certified_exist : CertifiedExist
certified_exist rule x top mono small some =
    let braking = greatest_from rule x top mono (length x) 0 (omega arith) in
    let c = braking.0 in
    let points = braking.1.0 in
    let ended = ended_from rule x c c (length x - 1) 0 points (omega arith) (record { first = refl; each = λ i l. absurd (omega arith) }) in
    let envelope = ended.1.1 in (
      c,
      (
        ended.0,
        (
          ended.1.0,
          IsCertified-right rule x c ended.0 ended.1.0 (record {
            points = points;
            few = envelope.few;
            greatest = λ i l. braking.1.1 i (omega arith) l;
            driven = envelope.driven;
            ends = envelope.ends;
          }),
        ),
      ),
    )
