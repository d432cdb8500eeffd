-- Where two envelopes agree: each number follows from the one before it and from the cap at its point.
use Rattle.std.proofs.Common.{◌≡◌, ℕ, zero, suc, ◌+◌, ◌-◌, ◌<◌, ◌≤◌, List, length, slice_index, take, add-one, ap, arith, refl, subst, sym, ◌∙◌, inl, inr, Some, None}
use Rattle.std.proofs.lemmas.Bool.{cases_lt}
use Rattle.std.proofs.lemmas.Bool.Decides.{nat_tests}
use Rattle.unit_rules.specs.declared.Reach.{Reach}
use Rattle.unit_rules.specs.declared.Reach.TheVariants.{Whole, Stalled}
use Rattle.run_rules.specs.Drives.{EnvelopesAgreeAfter, EnvelopesAgreeBefore, HoldsEnvelope}
use Rattle.run_rules.specs.Runs.{IsEnvelopeTo, IsMonotone, IsStalled, ReachesAs, StepRule}
use Rattle.run_rules.specs.Walks.{AgreeOutside, EndsAt, count_of}
use Rattle.unit_rules.specs.Known.{AgreeAt, known_at}
use Rattle.unit_rules.proofs.KnownFacts.{AgreeAt-number, known_at-known}
use Rattle.run_rules.proofs.DrivingFacts.{IsDrivable, IsDrivable-braking_list, IsNextNumber-same}
use Rattle.run_rules.proofs.EnvelopeFacts.{EndsAt-envelope}

EndsAt-reaches : (rule : StepRule) (cells : ℕ) (c e : List ℕ) (reach : Reach) → IsDrivable rule c → length c ≡ cells + 1 → length e ≡ length c → ReachesAs rule c e reach → EndsAt rule c e (count_of (length c) reach)
EndsAt-reaches rule cells c e Whole line points same run =
    subst (λ n. EndsAt rule c e n) (sym points) (EndsAt-envelope rule c e cells line same (omega arith) (λ h. run) (λ h. absurd (omega arith)))
EndsAt-reaches rule cells c e (Stalled k) line points same stall =
    let some = stall.0.on_line.0 in
    let on = stall.0.on_line.1 in
    let back : k - 1 + 1 ≡ k = omega arith in
    subst (λ n. EndsAt rule c e n) back (EndsAt-envelope rule c e (k - 1) line same (omega arith) (λ h. absurd (omega arith))
    (λ h. subst (λ n. IsStalled rule c n × IsEnvelopeTo rule c (take n e) n) (sym back) stall))

-- an envelope ends where its numbers do
pub EndsAt-holds : (rule : StepRule) (cells top : ℕ) (c e : List ℕ) (n : ℕ) → IsMonotone rule cells top → HoldsEnvelope rule cells top c e n → EndsAt rule c e n
EndsAt-holds rule cells top c e n mono holds =
    let line = IsDrivable-braking_list rule cells top c mono holds.brakes in
    subst (λ k. EndsAt rule c e k) holds.reaches.2 (EndsAt-reaches rule cells c e holds.reaches.0 line holds.brakes.points holds.same_points holds.reaches.1)

known_at-missing : (e : List ℕ) (n i : ℕ) → n ≤ i → known_at e n i ≡ None
known_at-missing e n i l = grind (arith, nat_tests)

-- where both numbers are missing they agree
AgreeAt-missing : (d e : List ℕ) (n m i : ℕ) → n ≤ i → m ≤ i → AgreeAt d n e m i
AgreeAt-missing d e n m i h l = known_at-missing d n i h ∙ sym (known_at-missing e m i l)

AgreeAt-known : (d e : List ℕ) (n m i : ℕ) → i < n → i < m → slice_index d i ≡ slice_index e i → AgreeAt d n e m i
AgreeAt-known d e n m i h l same = known_at-known d n i h ∙ ap (λ w. Some w) same ∙ sym (known_at-known e m i l)

-- from the same number and the same cap comes the same next number
next_number-same : (rule : StepRule) (b c d e : List ℕ) (n m i : ℕ) → length b ≡ length c → EndsAt rule b d n → EndsAt rule c e m → slice_index b (i + 1) ≡ slice_index c (i + 1)
    → slice_index d i ≡ slice_index e i → i < m → i + 1 < n → (i + 1 < m) × (slice_index d (i + 1) ≡ slice_index e (i + 1))
next_number-same rule b c d e n m i same first second cap now known l =
    let on = first.on_line in
    let number = IsNextNumber-same rule b c d e i (slice_index d (i + 1)) (slice_index d (i + 1)) cap now refl (first.each i l) in
    elim (cases_lt (i + 1) m) [
      | inl h ↦
          let other = second.each i h in
          let most = number.greatest (slice_index e (i + 1)) other.capped other.driven in
          let least = other.greatest (slice_index d (i + 1)) number.capped number.driven in
          (h, omega arith)
      | inr h ↦
          let stands = second.blocked i (omega arith) (omega arith) (slice_index d (i + 1)) number.capped number.driven in
          let moves = number.moving in
          absurd (omega arith)
    ]

-- so what agrees at a point agrees at the next, where the caps do
AgreeAt-next : (rule : StepRule) (b c d e : List ℕ) (n m i : ℕ) → length b ≡ length c → EndsAt rule b d n → EndsAt rule c e m → slice_index b (i + 1) ≡ slice_index c (i + 1)
    → AgreeAt d n e m i → AgreeAt d n e m (i + 1)
AgreeAt-next rule b c d e n m i same first second cap agree =
    elim (cases_lt i n) [
      | inl l ↦
          let number = AgreeAt-number d e n m i agree l in
          elim (cases_lt (i + 1) n) [
            | inl h ↦ let next = next_number-same rule b c d e n m i same first second cap (sym number.1) number.0 h in AgreeAt-known d e n m (i + 1) h next.0 next.1
            | inr h ↦ elim (cases_lt (i + 1) m) [
              | inl k ↦ let next = next_number-same rule c b e d m n i (sym same) second first (sym cap) number.1 l k in absurd (omega (arith, next.0))
              | inr k ↦ AgreeAt-missing d e n m (i + 1) h k
            ]
          ]
      | inr l ↦ elim (cases_lt i m) [
        | inl h ↦ let number = AgreeAt-number e d m n i (sym agree) h in absurd (omega (arith, number.0))
        | inr h ↦ AgreeAt-missing d e n m (i + 1) (omega arith) (omega arith)
      ]
    ]

AgreeAt-before : (rule : StepRule) (b c d e : List ℕ) (from to n m : ℕ) → AgreeOutside b c from to → EndsAt rule b d n → EndsAt rule c e m → (i : ℕ) → i < from → AgreeAt d n e m i
AgreeAt-before rule b c d e from to n m caps first second zero l =
    let some = first.some in
    let other_some = second.some in
    AgreeAt-known d e n m 0 (omega arith) (omega arith) (first.first ∙ caps.agrees 0 (inl l) ∙ sym second.first)
AgreeAt-before rule b c d e from to n m caps first second (suc i) l =
    let before = AgreeAt-before rule b c d e from to n m caps first second i (omega arith) in
    rw add-one at (AgreeAt-next rule b c d e n m i caps.same_points first second (caps.agrees (i + 1) (inl (omega arith))) before)

AgreeAt-after : (rule : StepRule) (b c d e : List ℕ) (from to n m i : ℕ) → AgreeOutside b c from to → EndsAt rule b d n → EndsAt rule c e m → to ≤ i → AgreeAt d n e m i → (t j : ℕ) → j ≡ i + t → AgreeAt d n e m j
AgreeAt-after rule b c d e from to n m i caps first second past agree zero j at = let same : j ≡ i = omega arith in rw same agree
AgreeAt-after rule b c d e from to n m i caps first second past agree (suc t) j at =
    let before = AgreeAt-after rule b c d e from to n m i caps first second past agree t (i + t) refl in
    let next : j ≡ i + t + 1 = omega arith in
    rw next (AgreeAt-next rule b c d e n m (i + t) caps.same_points first second (caps.agrees (i + t + 1) (inr (omega arith))) before)

pub envelopes_agree_before : EnvelopesAgreeBefore
envelopes_agree_before rule cells top from to b c d e n m mono caps one other =
    AgreeAt-before rule b c d e from to n m caps (EndsAt-holds rule cells top b d n mono one) (EndsAt-holds rule cells top c e m mono other)

pub envelopes_agree_after : EnvelopesAgreeAfter
envelopes_agree_after rule cells top from to b c d e n m mono caps one other i j past later agree =
    AgreeAt-after rule b c d e from to n m i caps (EndsAt-holds rule cells top b d n mono one) (EndsAt-holds rule cells top c e m mono other) past agree (j - i) j (omega arith)
