-- The first of the broken rules.
use Rattle.std.proofs.Common.{◌≡◌, ℕ, ◌+◌, ◌<◌, ◌≤◌, ◌⊎◌, List, length, slice_index, arith, refl, sym, ◌∙◌, inl, inr}
use Rattle.std.proofs.lemmas.Bool.{cases_lt, cases_order, iff_false}
use Rattle.std.specs.Bool.{then_some}
use Rattle.std.specs.Prelude.{Bool, IfNone, IfSome, IsTrue, true, false, ◌↔◌}
use Rattle.unit_rules.specs.declared.Reach.{Reach}
use Rattle.unit_rules.specs.declared.Reach.TheVariants.{Whole, Stalled}
use Rattle.run_rules.specs.Runs.{StepRule}
use Rattle.cert_check.specs.Faults.{ComesBefore, IsFirstBroken, IsLeastBroken, KeepsAll}
use Rattle.cert_check.specs.Rules.{BrakesEarly, BrakesLate, BreaksPointRule, BreaksRule, BreaksSpeedRule, CanBrake, EndsElsewhere, HasOtherPoints, IsAboveCap, IsCertified, StandsTwice}

-- the numbers of the rules at a point
speed_rule-number : (rule : StepRule) (c e : List ℕ) (i r : ℕ) → BreaksSpeedRule rule c e i r → (4 ≤ r) × (r ≤ 6) × (i < length e)
speed_rule-number rule c e i r broken = elim broken [
  | inl b ↦ (omega (arith, b.0), omega (arith, b.0), b.1)
  | inr other ↦ elim other [ inl b ↦ (omega (arith, b.0), omega (arith, b.0), b.1) | inr b ↦ (omega (arith, b.0), omega (arith, b.0), b.1) ]
]

point_rule-number : (rule : StepRule) (x c e : List ℕ) (i r : ℕ) → BreaksPointRule rule x c e i r → (2 ≤ r) × (r ≤ 8) × ((i < length x) ⊎ (i < length e))
point_rule-number rule x c e i r broken = elim broken [
  | inl b ↦ (omega (arith, b.0), omega (arith, b.0), inl b.1)
  | inr other ↦ elim other [
    | inl b ↦ (omega (arith, b.0), omega (arith, b.0), inl b.1)
    | inr other ↦ elim other [
      | inl b ↦ let n = speed_rule-number rule c e i r b in (omega (arith, n.0), omega (arith, n.1), inr n.2)
      | inr other ↦ elim other [ inl b ↦ (omega (arith, b.0), omega (arith, b.0), inl b.1) | inr b ↦ (omega (arith, b.0), omega (arith, b.0), inr b.1) ]
    ]
  ]
]

-- a rule at a point is the least that is broken, where those with lesser numbers are kept
point_rules-below : (rule : StepRule) (x c e : List ℕ) (i r : ℕ) → (2 < r → IsAboveCap x c i → ⊥) → (3 < r → BrakesEarly rule x c i → ⊥)
    → ((s : ℕ) → s < r → BreaksSpeedRule rule c e i s → ⊥) → (7 < r → BrakesLate rule c i → ⊥) → (8 < r → i < length e → StandsTwice e i → ⊥)
    → (s : ℕ) → s < r → BreaksPointRule rule x c e i s → ⊥
point_rules-below rule x c e i r high early speed late stands s l broken = elim broken [
  | inl b ↦ high (omega (arith, b.0)) b.2
  | inr other ↦ elim other [
    | inl b ↦ early (omega (arith, b.0)) b.2
    | inr other ↦ elim other [
      | inl b ↦ speed s l b
      | inr other ↦ elim other [ inl b ↦ late (omega (arith, b.0)) b.2 | inr b ↦ stands (omega (arith, b.0)) b.1 b.2 ]
    ]
  ]
]

-- rules 2 and 3 are kept at a point
pub record KeepsBraking (rule : StepRule) (x c : List ℕ) (i : ℕ) : Type 0 where
  pub on_line : i < length x
  pub capped : IsAboveCap x c i → ⊥
  pub late_enough : BrakesEarly rule x c i → ⊥

pub KeepsBraking-cap : (rule : StepRule) (x c : List ℕ) (i cap : ℕ) → i < length x → cap ≡ slice_index x i → slice_index c i ≤ cap
    → ((slice_index c i < cap) × CanBrake rule c i (slice_index c i + 1) → ⊥) → KeepsBraking rule x c i
KeepsBraking-cap rule x c i cap l same below late = record { on_line = l; capped = λ high. omega arith; late_enough = λ early. late (rw (← same) at early) }

pub IsLeastBroken-cap : (rule : StepRule) (x c e : List ℕ) (i : ℕ) → i < length x → IsAboveCap x c i → IsLeastBroken (BreaksPointRule rule x c e i) 2
IsLeastBroken-cap rule x c e i l high = record {
  broken = inl (refl, l, high);
  least = λ s h b. omega (arith, (point_rule-number rule x c e i s b).0);
}

pub IsLeastBroken-early : (rule : StepRule) (x c e : List ℕ) (i : ℕ) → i < length x → (IsAboveCap x c i → ⊥) → BrakesEarly rule x c i → IsLeastBroken (BreaksPointRule rule x c e i) 3
IsLeastBroken-early rule x c e i l capped early = record {
  broken = inr (inl (refl, l, early));
  least = point_rules-below rule x c e i 3 (λ h. capped) (λ h b. omega arith) (λ s h b. omega (arith, (speed_rule-number rule c e i s b).0)) (λ h b. omega arith) (λ h k b. omega arith);
}

pub IsLeastBroken-speed : (rule : StepRule) (x c e : List ℕ) (i r : ℕ) → KeepsBraking rule x c i → IsLeastBroken (BreaksSpeedRule rule c e i) r → IsLeastBroken (BreaksPointRule rule x c e i) r
IsLeastBroken-speed rule x c e i r kept speed =
    let number = (speed_rule-number rule c e i r speed.broken).1 in
    record {
      broken = inr (inr (inl speed.broken));
      least = point_rules-below rule x c e i r (λ h. kept.capped) (λ h. kept.late_enough) speed.least (λ h b. omega arith) (λ h k b. omega arith);
    }

pub IsLeastBroken-late : (rule : StepRule) (x c e : List ℕ) (i : ℕ) → KeepsBraking rule x c i → KeepsAll (BreaksSpeedRule rule c e i) → BrakesLate rule c i → IsLeastBroken (BreaksPointRule rule x c e i) 7
IsLeastBroken-late rule x c e i kept speed late = record {
  broken = inr (inr (inr (inl (refl, kept.on_line, late))));
  least = point_rules-below rule x c e i 7 (λ h. kept.capped) (λ h. kept.late_enough) (λ s h. speed s) (λ h b. omega arith) (λ h k b. omega arith);
}

IsLeastBroken-stands : (rule : StepRule) (x c e : List ℕ) (i : ℕ) → KeepsBraking rule x c i → KeepsAll (BreaksSpeedRule rule c e i) → CanBrake rule c i (slice_index c i)
    → i < length e → StandsTwice e i → IsLeastBroken (BreaksPointRule rule x c e i) 8
IsLeastBroken-stands rule x c e i kept speed brakes l stands = record {
  broken = inr (inr (inr (inr (refl, l, stands))));
  least = point_rules-below rule x c e i 8 (λ h. kept.capped) (λ h. kept.late_enough) (λ s h. speed s) (λ h late. late brakes) (λ h k b. omega arith);
}

KeepsAll-point : (rule : StepRule) (x c e : List ℕ) (i : ℕ) → KeepsBraking rule x c i → KeepsAll (BreaksSpeedRule rule c e i) → CanBrake rule c i (slice_index c i)
    → (i < length e → StandsTwice e i → ⊥) → KeepsAll (BreaksPointRule rule x c e i)
KeepsAll-point rule x c e i kept speed brakes moves r = point_rules-below rule x c e i (r + 1) (λ h. kept.capped) (λ h. kept.late_enough) (λ s h. speed s) (λ h late. late brakes) (λ h. moves) r (omega arith)

-- so where rules 2 to 7 are kept, whether the train stands twice tells which
pub IfSome-stands : (rule : StepRule) (x c e : List ℕ) (i : ℕ) (b : Bool) → IsTrue b ↔ ((i < length e) × StandsTwice e i) → KeepsBraking rule x c i → KeepsAll (BreaksSpeedRule rule c e i)
    → CanBrake rule c i (slice_index c i) → IfSome (then_some b 8) (IsLeastBroken (BreaksPointRule rule x c e i))
IfSome-stands rule x c e i true same kept speed brakes = let stands = same.0 refl in IsLeastBroken-stands rule x c e i kept speed brakes stands.0 stands.1
IfSome-stands rule x c e i false same kept speed brakes = tt

pub IfNone-stands : (rule : StepRule) (x c e : List ℕ) (i : ℕ) (b : Bool) → IsTrue b ↔ ((i < length e) × StandsTwice e i) → KeepsBraking rule x c i → KeepsAll (BreaksSpeedRule rule c e i)
    → CanBrake rule c i (slice_index c i) → IfNone {T = ℕ} (then_some b 8) (KeepsAll (BreaksPointRule rule x c e i))
IfNone-stands rule x c e i true same kept speed brakes = tt
IfNone-stands rule x c e i false same kept speed brakes = KeepsAll-point rule x c e i kept speed brakes (λ l stands. iff_false same refl (l, stands))

rule-number : (rule : StepRule) (x c e : List ℕ) (verdict : Reach) (i r : ℕ) → BreaksRule rule x c e verdict i r → (1 ≤ r) × (r ≤ 9)
rule-number rule x c e verdict i r broken = elim broken [
  | inl b ↦ (omega (arith, b.0), omega (arith, b.0))
  | inr other ↦ elim other [
    | inl b ↦ let n = point_rule-number rule x c e i r b in (omega (arith, n.0), omega (arith, n.1))
    | inr b ↦ (omega (arith, b.0), omega (arith, b.0))
  ]
]

-- c has a number for each point, and e no more; so rule 1 is kept
pub record HasPoints (x c e : List ℕ) : Type 0 where
  pub same : length c ≡ length x
  pub few : length e ≤ length x

HasPoints-kept : (x c e : List ℕ) → HasPoints x c e → HasOtherPoints x c e → ⊥
HasPoints-kept x c e points other = elim other [ inl off ↦ off points.same | inr more ↦ omega (arith, points.few, more) ]

on_line : (rule : StepRule) (x c e : List ℕ) (i r : ℕ) → HasPoints x c e → BreaksPointRule rule x c e i r → i < length x
on_line rule x c e i r points broken = let few = points.few in elim (point_rule-number rule x c e i r broken).2 [ inl l ↦ l | inr l ↦ omega arith ]

-- rule 1 is the first of all
pub IsFirstBroken-points : (rule : StepRule) (x c e : List ℕ) (verdict : Reach) → HasOtherPoints x c e → IsFirstBroken rule x c e verdict 0 1
IsFirstBroken-points rule x c e verdict other = record {
  broken = inl (refl, refl, other);
  first = λ j s before broken.
      let least = rule-number rule x c e verdict j s broken in
      elim before.1 [
        | inl last ↦ omega arith
        | inr near ↦ elim near [ inl l ↦ omega arith | inr less ↦ omega (arith, less.1, least.0) ]
      ];
}

-- then comes the least rule that is broken at a point, where those at the points before are kept
pub IsFirstBroken-point : (rule : StepRule) (x c e : List ℕ) (verdict : Reach) (i r : ℕ) → HasPoints x c e → ((j : ℕ) → j < i → KeepsAll (BreaksPointRule rule x c e j))
    → IsLeastBroken (BreaksPointRule rule x c e i) r → IsFirstBroken rule x c e verdict i r
IsFirstBroken-point rule x c e verdict i r points kept least = record {
  broken = inr (inl least.broken);
  first = λ j s before broken. elim broken [
    | inl b ↦ HasPoints-kept x c e points b.2
    | inr other ↦ elim other [
      | inl b ↦ elim before.1 [
        | inl last ↦ omega (arith, (point_rule-number rule x c e i r least.broken).1, last)
        | inr near ↦ elim near [
          | inl l ↦ kept j l s b
          | inr here ↦ let same = here.0 in least.least s here.1 (rw same at b)
        ]
      ]
      | inr b ↦ omega (arith, before.0, b.0)
    ]
  ];
}

-- and then rule 9
pub IsFirstBroken-end : (rule : StepRule) (x c e : List ℕ) (verdict : Reach) (i : ℕ) → HasPoints x c e → ((j : ℕ) → j < length x → KeepsAll (BreaksPointRule rule x c e j))
    → EndsElsewhere rule (length x) c e verdict i → IsFirstBroken rule x c e verdict i 9
IsFirstBroken-end rule x c e verdict i points kept end = record {
  broken = inr (inr (refl, end));
  first = λ j s before broken. elim broken [
    | inl b ↦ HasPoints-kept x c e points b.2
    | inr other ↦ elim other [
      | inl b ↦ kept j (on_line rule x c e j s points b) s b
      | inr b ↦ omega (arith, before.0, b.0)
    ]
  ];
}

-- a certificate is one of which no rule is broken at the points of the line, nor at its end
pub IsCertified-end : (rule : StepRule) (x c e : List ℕ) (verdict : Reach) → HasPoints x c e → ((j : ℕ) → j < length x → KeepsAll (BreaksPointRule rule x c e j))
    → ((i : ℕ) → EndsElsewhere rule (length x) c e verdict i → ⊥) → IsCertified rule x c e verdict
unfolding IsCertified
IsCertified-end rule x c e verdict points kept ends i r broken = elim broken [
  | inl b ↦ HasPoints-kept x c e points b.2
  | inr other ↦ elim other [ inl b ↦ kept i (on_line rule x c e i r points b) r b | inr b ↦ ends i b.1 ]
]

-- of two rules at points one comes before the other, or they are the same at the same point, or both are rule 9
either_before : (i r j s : ℕ) → r ≤ 9 → s ≤ 9 → ComesBefore i r j s ⊎ ComesBefore j s i r ⊎ ((i ≡ j) × (r ≡ s)) ⊎ ((r ≡ 9) × (s ≡ 9))
either_before i r j s most other = elim (cases_lt r 9) [
  | inl l ↦ elim (cases_lt s 9) [
    | inl k ↦ elim (cases_order i j) [
      | inl same ↦ elim (cases_order r s) [
        | inl e ↦ inr (inr (inl (same, e)))
        | inr ne ↦ elim ne [ inl less ↦ inl (l, inr (inr (same, less))) | inr more ↦ inr (inl (k, inr (inr (sym same, more)))) ]
      ]
      | inr ne ↦ elim ne [ inl less ↦ inl (l, inr (inl less)) | inr more ↦ inr (inl (k, inr (inl more))) ]
    ]
    | inr k ↦ inl (l, inl (omega arith))
  ]
  | inr l ↦ elim (cases_lt s 9) [ inl k ↦ inr (inl (k, inl (omega arith))) | inr k ↦ inr (inr (inr (omega arith, omega arith))) ]
]

end_broken : (rule : StepRule) (x c e : List ℕ) (verdict : Reach) (i : ℕ) → BreaksRule rule x c e verdict i 9 → EndsElsewhere rule (length x) c e verdict i
end_broken rule x c e verdict i broken = elim broken [
  | inl b ↦ absurd (omega (arith, b.0))
  | inr other ↦ elim other [ inl b ↦ absurd (omega (arith, (point_rule-number rule x c e i 9 b).1)) | inr b ↦ b.1 ]
]

ends_once : (rule : StepRule) (x c e : List ℕ) (verdict : Reach) (i j : ℕ) → EndsElsewhere rule (length x) c e verdict i → EndsElsewhere rule (length x) c e verdict j → i ≡ j
ends_once rule x c e Whole i j one other = omega (arith, one.0, other.0)
ends_once rule x c e (Stalled k) i j one other = one.0 ∙ sym other.0

-- rule 9 is broken at one point
end_once : (rule : StepRule) (x c e : List ℕ) (verdict : Reach) (i j : ℕ) → BreaksRule rule x c e verdict i 9 → BreaksRule rule x c e verdict j 9 → i ≡ j
end_once rule x c e verdict i j one other = ends_once rule x c e verdict i j (end_broken rule x c e verdict i one) (end_broken rule x c e verdict j other)

-- so there is one first rule
pub IsFirstBroken-once : (rule : StepRule) (x c e : List ℕ) (verdict : Reach) (i r j s : ℕ) → IsFirstBroken rule x c e verdict i r → IsFirstBroken rule x c e verdict j s → (i ≡ j) × (r ≡ s)
IsFirstBroken-once rule x c e verdict i r j s one other =
    let n = rule-number rule x c e verdict i r one.broken in
    let m = rule-number rule x c e verdict j s other.broken in
    elim (either_before i r j s n.1 m.1) [
      | inl before ↦ absurd (other.first i r before one.broken)
      | inr rest ↦ elim rest [
        | inl before ↦ absurd (one.first j s before other.broken)
        | inr rest ↦ elim rest [
          | inl same ↦ same
          | inr last ↦
              let first_last = last.0 in
              let other_last = last.1 in
              (end_once rule x c e verdict i j (rw first_last at one.broken) (rw other_last at other.broken), first_last ∙ sym other_last)
        ]
      ]
    ]

-- and there is none of a certificate
pub IsFirstBroken-uncertified : (rule : StepRule) (x c e : List ℕ) (verdict : Reach) (i r : ℕ) → IsFirstBroken rule x c e verdict i r → IsCertified rule x c e verdict → ⊥
unfolding IsCertified
IsFirstBroken-uncertified rule x c e verdict i r first certified = certified i r first.broken
