-- The rules of a certificate by points: what no broken rule says of the numbers there, and the other way round.
use Rattle.std.proofs.Common.{◌≡◌, ℕ, ◌+◌, ◌-◌, ◌<◌, ◌≤◌, ℤ, pos, ◌≤ℤ◌, ◌<ℤ◌, ◌⊎◌, List, length, slice_index, arith, refl, inl, inr}
use Rattle.std.specs.Int.{int_min}
use Rattle.std.proofs.lemmas.Bool.{cases_eq, cases_lt}
use Rattle.std.proofs.lemmas.Int.{by_lt_z, clamps, ints}
use Rattle.unit_rules.specs.declared.Reach.{Reach}
use Rattle.unit_rules.specs.declared.Reach.TheVariants.{Whole, Stalled}
use Rattle.run_rules.specs.Runs.{IsMonotone, StepRule}
use Rattle.run_rules.specs.Walks.{IsBlockedAfter, IsGreatestAt, IsNext, IsNextNumber}
use Rattle.run_rules.proofs.DrivingFacts.{IsDriven, IsDriven-capped}
use Rattle.cert_check.specs.Faults.{KeepsAll}
use Rattle.cert_check.specs.Rules.{BreaksPointRule, BreaksSpeedRule, BrakesEarly, EndsElsewhere, FallsShort, IsCertified, ShowsStall}

-- the caps are in the range of a rule that never falls as the speed rises
pub record IsCapped (rule : StepRule) (x : List ℕ) (top : ℕ) : Type 0 where
  pub mono : IsMonotone rule (length x - 1) top
  pub small : (i : ℕ) → i < length x → slice_index x i ≤ top
  pub some : 0 < length x

-- the speeds end at the last point, or where no speed follows
abbrev pub EndsThere : StepRule → List ℕ → List ℕ → List ℕ → Reach → Type 0
EndsThere rule x c e Whole = length e ≡ length x
EndsThere rule x c e (Stalled k) = (1 ≤ k) × (k < length x) × (length e ≡ k) × IsBlockedAfter rule c e (k - 1)

-- each braking number is the greatest at its point, and each speed the greatest after the one before
pub record IsRightByPoints (rule : StepRule) (x c e : List ℕ) (verdict : Reach) : Type 0 where
  pub points : length c ≡ length x
  pub few : length e ≤ length x
  pub greatest : (i : ℕ) → i < length x → IsGreatestAt rule x c i
  pub driven : IsDriven rule c e (length e)
  pub ends : EndsThere rule x c e verdict

-- where no rule is broken at a point, its braking number is up to the cap, and its speed up to that
pub below_cap : (rule : StepRule) (x c e : List ℕ) (i : ℕ) → KeepsAll (BreaksPointRule rule x c e i) → i < length x → slice_index c i ≤ slice_index x i
below_cap rule x c e i kept l = elim (cases_lt (slice_index x i) (slice_index c i)) [ inl more ↦ absurd (kept 2 (inl (refl, l, more))) | inr g ↦ g ]

pub below_braking : (rule : StepRule) (x c e : List ℕ) (i : ℕ) → KeepsAll (BreaksPointRule rule x c e i) → i < length e → slice_index e i ≤ slice_index c i
below_braking rule x c e i kept l = elim (cases_lt (slice_index c i) (slice_index e i)) [ inl more ↦ absurd (kept 4 (inr (inr (inl (inl (refl, l, more)))))) | inr g ↦ g ]

-- the braking number is the greatest there
greatest_kept : (rule : StepRule) (x c e : List ℕ) (top i : ℕ) → IsCapped rule x top → length c ≡ length x → KeepsAll (BreaksPointRule rule x c e i) → i < length x → IsGreatestAt rule x c i
greatest_kept rule x c e top i caps points kept l = record {
  capped = below_cap rule x c e i kept l;
  braked = λ on. by_lt_z (pos (slice_index c (i + 1))) (rule.low i (slice_index c i)) (λ more. absurd (kept 7 (inr (inr (inr (inl (refl, l, λ brakes. let braked = brakes (omega arith) in omega (arith, ints)))))))) (λ g. g);
  greatest = λ v h brakes. elim (cases_lt (slice_index c i) v) [
    | inl more ↦
        let small = caps.small i l in
        absurd (kept 3 (inr (inl (
          refl,
          l,
          (
            omega arith,
            λ on.
                let rises = caps.mono.low_rises i (slice_index c i + 1) v (omega arith) (omega arith) (omega arith) in
                let braked = brakes (omega arith) in
                omega (arith, ints),
          ),
        ))))
    | inr g ↦ g
  ];
}

-- the speed after cell i is the greatest there
next_kept : (rule : StepRule) (x c e : List ℕ) (i : ℕ) → KeepsAll (BreaksPointRule rule x c e (i + 1)) → i + 1 < length e → IsNextNumber rule c e i (slice_index e (i + 1))
next_kept rule x c e i kept l =
    let back : i + 1 - 1 ≡ i = omega arith in
    record {
      capped = below_braking rule x c e (i + 1) kept l;
      driven = by_lt_z (rule.up i (slice_index e i)) (pos (slice_index e (i + 1)))
          (λ more. absurd (kept 6 (inr (inr (inl (inr (inr (refl, l, (omega arith, rw back more))))))))) (λ g. g);
      moving = elim (cases_lt (slice_index e i + slice_index e (i + 1)) 1) [
        | inl stands ↦ absurd (kept 8 (inr (inr (inr (inr (refl, l, (omega arith, rw back (omega arith), omega arith)))))))
        | inr g ↦ g
      ];
      greatest = λ u h drives. elim (cases_lt (slice_index e (i + 1)) u) [
        | inl more ↦ absurd (kept 5 (inr (inr (inl (inr (inl (refl, l, (omega arith, inr (rw back (omega (arith, ints)))))))))))
        | inr g ↦ g
      ];
    }

first_kept : (rule : StepRule) (x c e : List ℕ) → KeepsAll (BreaksPointRule rule x c e 0) → 0 < length e → slice_index e 0 ≡ slice_index c 0
first_kept rule x c e kept l =
    let below = below_braking rule x c e 0 kept l in
    elim (cases_lt (slice_index e 0) (slice_index c 0)) [
      | inl less ↦ absurd (kept 5 (inr (inr (inl (inr (inl (refl, l, (less, inl refl))))))))
      | inr g ↦ omega arith
    ]

-- what shows a stall leaves no speed to follow
blocked_shown : (rule : StepRule) (x c e : List ℕ) (k u : ℕ) → ShowsStall rule (length x) c e k → u ≤ slice_index c k → pos u ≤ℤ rule.up (k - 1) (slice_index e (k - 1)) → u + slice_index e (k - 1) < 1
blocked_shown rule x c e k u shows h drives =
    elim shows.blocked [
      | inl weak ↦ absurd (omega (arith, ints))
      | inr stands ↦
          let still = stands.0 in
          let none = stands.1 in
          let from_stand : pos u ≤ℤ rule.up (k - 1) 0 = rw still at drives in
          omega (arith, ints, clamps)
    ]

min_none : (n : ℕ) (z : ℤ) → pos 0 ≤ℤ z → (n ≡ 0) ⊎ (z <ℤ pos 1) → int_min (pos n) z ≡ pos 0
min_none n z holds none = elim none [ inl zero_cap ↦ omega (arith, ints, clamps) | inr weak ↦ omega (arith, ints, clamps) ]

-- a speed that none can follow shows a stall
shown_blocked : (rule : StepRule) (x c e : List ℕ) (k : ℕ) → EndsThere rule x c e (Stalled k) → ShowsStall rule (length x) c e k
shown_blocked rule x c e k ends =
    let some = ends.0 in
    let back : k - 1 + 1 ≡ k = omega arith in
    let blocked : (u : ℕ) → u ≤ slice_index c k → pos u ≤ℤ rule.up (k - 1) (slice_index e (k - 1)) → u + slice_index e (k - 1) < 1 = rw back at ends.3 in
    record {
      on_line = (ends.0, ends.1);
      long = ends.2;
      blocked = by_lt_z (rule.up (k - 1) (slice_index e (k - 1))) (pos 0) (λ weak. inl weak) (λ holds.
          let still : slice_index e (k - 1) ≡ 0 = let stands = blocked 0 (omega arith) holds in omega arith in
          let strong : pos 0 ≤ℤ rule.up (k - 1) 0 = rw still at holds in
          inr (
            still,
            min_none (slice_index c k) (rule.up (k - 1) 0) strong (elim (cases_lt 0 (slice_index c k)) [
              | inl capped ↦ inr (by_lt_z (rule.up (k - 1) 0) (pos 1) (λ weak. weak) (λ gains. let moves = blocked 1 (omega arith) (rw still gains) in absurd (omega arith)))
              | inr none ↦ inl (omega arith)
            ]),
          ));
    }

-- a certificate keeps the rules of each point
pub IsCertified-kept : (rule : StepRule) (x c e : List ℕ) (verdict : Reach) → IsCertified rule x c e verdict → (i : ℕ) → KeepsAll (BreaksPointRule rule x c e i)
unfolding IsCertified
IsCertified-kept rule x c e verdict certified i r broken = certified i r (inr (inl broken))

pub IsCertified-points : (rule : StepRule) (x c e : List ℕ) (verdict : Reach) → IsCertified rule x c e verdict → (length c ≡ length x) × (length e ≤ length x)
unfolding IsCertified
IsCertified-points rule x c e verdict certified = (
  elim (cases_eq (length c) (length x)) [ inl same ↦ same | inr other ↦ absurd (certified 0 1 (inl (refl, refl, inl other))) ],
  elim (cases_lt (length x) (length e)) [ inl more ↦ absurd (certified 0 1 (inl (refl, refl, inr more))) | inr g ↦ g ],
)

-- and its speeds end where its verdict says
ends_kept : (rule : StepRule) (x c e : List ℕ) (verdict : Reach) → 0 < length x → ((i : ℕ) → EndsElsewhere rule (length x) c e verdict i → ⊥) → EndsThere rule x c e verdict
ends_kept rule x c e Whole some kept = elim (cases_eq (length e) (length x)) [ inl same ↦ same | inr other ↦ absurd (kept (length x - 1) (omega arith, other)) ]
ends_kept rule x c e (Stalled k) some kept = (
  elim (cases_lt 0 k) [ inl l ↦ l | inr g ↦ absurd (kept k (refl, λ shows. omega (arith, shows.on_line.0))) ],
  elim (cases_lt k (length x)) [ inl l ↦ l | inr g ↦ absurd (kept k (refl, λ shows. omega (arith, shows.on_line.1))) ],
  elim (cases_eq (length e) k) [ inl same ↦ same | inr other ↦ absurd (kept k (refl, λ shows. other shows.long)) ],
  λ u h drives. elim (cases_lt (u + slice_index e (k - 1)) 1) [
    | inl l ↦ l
    | inr g ↦ absurd (kept k (refl, λ shows. let back : k - 1 + 1 ≡ k = omega (arith, shows.on_line.0) in let still = blocked_shown rule x c e k u shows (rw back at h) drives in omega arith))
  ],
)

EndsThere-some : (rule : StepRule) (x c e : List ℕ) (verdict : Reach) → 0 < length x → EndsThere rule x c e verdict → 0 < length e
EndsThere-some rule x c e Whole some ends = omega arith
EndsThere-some rule x c e (Stalled k) some ends = let least = ends.0 in let long = ends.2 in omega arith

-- where no rule is broken all numbers are right
pub IsRightByPoints-certified : (rule : StepRule) (x c e : List ℕ) (verdict : Reach) (top : ℕ) → IsCapped rule x top → IsCertified rule x c e verdict → IsRightByPoints rule x c e verdict
unfolding IsCertified
IsRightByPoints-certified rule x c e verdict top caps certified =
    let kept = IsCertified-kept rule x c e verdict certified in
    let points = IsCertified-points rule x c e verdict certified in
    let ends = ends_kept rule x c e verdict caps.some (λ i broken. certified i 9 (inr (inr (refl, broken)))) in
    record {
      points = points.0;
      few = points.1;
      greatest = λ i l. greatest_kept rule x c e top i caps points.0 (kept i) l;
      driven = record {
        first = first_kept rule x c e (kept 0) (EndsThere-some rule x c e verdict caps.some ends);
        each = λ i l. next_kept rule x c e i (kept (i + 1)) l;
      };
      ends = ends;
    }

-- where all numbers are right, each speed past the first is the greatest after the one before
next_right : (rule : StepRule) (c e : List ℕ) (i : ℕ) → IsDriven rule c e (length e) → 1 ≤ i → i < length e
    → IsNext (slice_index e (i - 1)) (rule.up (i - 1) (slice_index e (i - 1))) (slice_index c i) (slice_index e i)
next_right rule c e i driven some l = let back : i - 1 + 1 ≡ i = omega arith in rw back at (driven.each (i - 1) (omega arith))

early_right : (rule : StepRule) (x c : List ℕ) (i : ℕ) → length c ≡ length x → IsGreatestAt rule x c i → BrakesEarly rule x c i → ⊥
early_right rule x c i points number early =
    let below = early.0 in
    let most = number.greatest (slice_index c i + 1) (omega arith) (rw points at early.1) in
    omega arith

short_right : (rule : StepRule) (c e : List ℕ) (i : ℕ) → IsDriven rule c e (length e) → i < length e → FallsShort rule c e i → ⊥
short_right rule c e i driven l short =
    elim (cases_lt 0 i) [
      | inl some ↦ elim short.1 [
        | inl first ↦ omega arith
        | inr weak ↦
            let less = short.0 in
            let most = (next_right rule c e i driven some l).greatest (slice_index e i + 1) (omega arith) (omega (arith, ints)) in
            omega arith
      ]
      | inr none ↦
          let start : i ≡ 0 = omega arith in
          let less : slice_index e 0 < slice_index c 0 = rw start at short.0 in
          omega (arith, driven.first)
    ]

speed_right : (rule : StepRule) (c e : List ℕ) → IsDriven rule c e (length e) → (i r : ℕ) → BreaksSpeedRule rule c e i r → ⊥
speed_right rule c e driven i r broken =
    elim broken [
      | inl high ↦ omega (arith, IsDriven-capped rule c e (length e) driven i high.1, high.2)
      | inr other ↦ elim other [
        | inl short ↦ short_right rule c e i driven short.1 short.2
        | inr fast ↦ let most = (next_right rule c e i driven fast.2.0 fast.1).driven in let more = fast.2.1 in omega (arith, ints)
      ]
    ]

-- so none of the rules 2 to 8 is broken
point_right : (rule : StepRule) (x c e : List ℕ) (verdict : Reach) → IsRightByPoints rule x c e verdict → (i r : ℕ) → BreaksPointRule rule x c e i r → ⊥
point_right rule x c e verdict right i r broken =
    elim broken [
      | inl high ↦ omega (arith, (right.greatest i high.1).capped, high.2)
      | inr other ↦ elim other [
        | inl early ↦ early_right rule x c i right.points (right.greatest i early.1) early.2
        | inr other ↦ elim other [
          | inl speed ↦ speed_right rule c e right.driven i r speed
          | inr other ↦ elim other [
            | inl late ↦ late.2 (rw (← right.points) at (right.greatest i late.1).braked)
            | inr stands ↦ omega (arith, (next_right rule c e i right.driven stands.2.0 stands.1).moving, stands.2.1, stands.2.2)
          ]
        ]
      ]
    ]

ends_right : (rule : StepRule) (x c e : List ℕ) (verdict : Reach) (i : ℕ) → EndsThere rule x c e verdict → EndsElsewhere rule (length x) c e verdict i → ⊥
ends_right rule x c e Whole i ends other = other.1 ends
ends_right rule x c e (Stalled k) i ends other = other.1 (shown_blocked rule x c e k ends)

pub IsCertified-right : (rule : StepRule) (x c e : List ℕ) (verdict : Reach) → IsRightByPoints rule x c e verdict → IsCertified rule x c e verdict
unfolding IsCertified
IsCertified-right rule x c e verdict right i r broken =
    elim broken [
      | inl sizes ↦ elim sizes.2 [ inl other ↦ other right.points | inr more ↦ omega (arith, right.few, more) ]
      | inr other ↦ elim other [
        | inl point ↦ point_right rule x c e verdict right i r point
        | inr end ↦ ends_right rule x c e verdict i right.ends end.1
      ]
    ]
