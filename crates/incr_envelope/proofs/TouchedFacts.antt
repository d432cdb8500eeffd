-- How many points an edit touches, and what is kept of a run of which the first numbers alone are known.
use Rattle.std.proofs.Common.{◌≡◌, ℕ, zero, suc, ◌+◌, ◌-◌, ◌<◌, ◌≤◌, ◌≢◌, Bool, true, not, ◌||◌, ◌==◌, List, length, take, slice_index, get_or-take, length-take-le, arith, ap, refl, sym, ◌∙◌, inl, inr, Some, None}
use Rattle.std.proofs.lemmas.Bool.{cases_lt, or_left, or_right}
use Rattle.std.proofs.lemmas.Bool.Decides.{nat_tests}
use Rattle.unit_rules.proofs.KnownFacts.{known_at-known}
use Rattle.unit_rules.specs.Known.{AgreeAt, known_at}
use Rattle.unit_rules.specs.Limits.{greatest_squared_speed}
use Rattle.unit_rules.specs.declared.Reach.{Reach}
use Rattle.unit_rules.specs.declared.Reach.TheVariants.{Whole, Stalled}
use Rattle.run_rules.specs.Runs.{Keeps, ReachesAs, StepRule}
use Rattle.run_rules.specs.Walks.{count_of}
use Rattle.time_brackets.proofs.SumFacts.{sum_over-same}
use Rattle.time_brackets.specs.Sums.{HasSums, IsMoving, KeptSums, StandsFor, longest_at, shortest_at}
use Rattle.time_brackets.specs.declared.Bracket.{Bracket}
use Rattle.incr_envelope.specs.Runs.{is_within}
use Rattle.incr_envelope.specs.Touched.{count_below, differ_at, touched, value_at}

-- points that pass a test from one on up to the last are all counted
count_below-front : (test : ℕ → Bool) (from n : ℕ) → ((i : ℕ) → from ≤ i → i < n → test i ≡ true) → n ≤ count_below test n + from
count_below-front test from zero passes = omega arith
count_below-front test from (suc n) passes = elim (cases_lt n from) [
  | inl before ↦ omega arith
  | inr on ↦
      let rest = count_below-front test from n (λ i l m. passes i l (omega arith)) in
      rw (passes n on (omega arith)) (omega (arith, rest))
]

-- no fewer of more points pass a test
count_below-mono : (test : ℕ → Bool) (m n : ℕ) → m ≤ n → count_below test m ≤ count_below test n
count_below-mono test m zero h = let none : m ≡ 0 = omega arith in rw none (omega arith)
count_below-mono test m (suc n) h = elim (cases_lt m (suc n)) [
  | inl below ↦ let rest = count_below-mono test m n (omega arith) in omega (arith, rest)
  | inr all ↦ let same : m ≡ suc n = omega arith in rw same (omega arith)
]

-- a stretch of points that pass a test is counted
pub count_below-stretch : (test : ℕ → Bool) (from to n : ℕ) → to < n → ((i : ℕ) → from ≤ i → i ≤ to → test i ≡ true) → to + 1 ≤ count_below test n + from
count_below-stretch test from to n on passes =
    let counted = count_below-front test from (to + 1) (λ i l m. passes i l (omega arith)) in
    omega (arith, counted, count_below-mono test (to + 1) n (omega arith))

-- a list of which the first numbers are known has one more than its number where one is known
value_at-known : (e : List ℕ) (n i : ℕ) → n ≤ length e → i < n → value_at (take n e) i ≡ slice_index e i + 1
value_at-known e n i listed l = rw (length-take-le n e listed, get_or-take n e i 0 l) (grind (arith, nat_tests))

-- and 0 where none is
value_at-missing : (e : List ℕ) (n i : ℕ) → n ≤ length e → n ≤ i → value_at (take n e) i ≡ 0
value_at-missing e n i listed l = rw (length-take-le n e listed) (grind (arith, nat_tests))

known_at-missing : (e : List ℕ) (n i : ℕ) → n ≤ i → known_at e n i ≡ None
known_at-missing e n i l = grind (arith, nat_tests)

-- where the values are the same, the known numbers agree
pub AgreeAt-values : (d e : List ℕ) (n m i : ℕ) → n ≤ length d → m ≤ length e → value_at (take n d) i ≡ value_at (take m e) i → AgreeAt d n e m i
AgreeAt-values d e n m i long other same = elim (cases_lt i n) [
  | inl h ↦
      let here = value_at-known d n i long h in
      elim (cases_lt i m) [
        | inl k ↦
            let there = value_at-known e m i other k in
            let number : slice_index d i ≡ slice_index e i = omega arith in
            known_at-known d n i h ∙ ap (λ w. Some w) number ∙ sym (known_at-known e m i k)
        | inr k ↦ absurd (omega (arith, value_at-missing e m i other k))
      ]
  | inr h ↦
      let here = value_at-missing d n i long h in
      elim (cases_lt i m) [
        | inl k ↦ absurd (omega (arith, value_at-known e m i other k))
        | inr k ↦ known_at-missing d n i h ∙ sym (known_at-missing e m i k)
      ]
]

-- two numbers that are told apart
differ : (a b : ℕ) → (a ≡ b → ⊥) → not (a == b) ≡ true
differ a b h = grind (arith, nat_tests)

differ_at-brakes : (d e : List ℕ) (i : ℕ) → i < length d → i < length e → (slice_index e i ≡ slice_index d i → ⊥) → differ_at d e i ≡ true
differ_at-brakes d e i l m h =
    let first : value_at d i ≡ slice_index d i + 1 = grind (arith, nat_tests) in
    let second : value_at e i ≡ slice_index e i + 1 = grind (arith, nat_tests) in
    differ (value_at d i) (value_at e i) (λ same. h (omega arith))

differ_at-speeds : (d e : List ℕ) (n m i : ℕ) → n ≤ length d → m ≤ length e → (AgreeAt e m d n i → ⊥) → differ_at (take n d) (take m e) i ≡ true
differ_at-speeds d e n m i l k h = differ (value_at (take n d) i) (value_at (take m e) i) (λ same. h (AgreeAt-values e d m n i k l (sym same)))

is_within-true : (from to i : ℕ) → from ≤ i → i ≤ to → is_within from to i ≡ true
is_within-true from to i l m = grind (arith, nat_tests)

-- a walk back that changed each braking number below a stretch, and a walk on that changed each speed past it, touched them all
pub touched-stretch : (b c e f : List ℕ) (n k m lowest from to last : ℕ) → length b ≡ n → length c ≡ n → length e ≡ n → length f ≡ n → k ≤ n → m ≤ n → lowest ≤ from → from ≤ to → to ≤ last → last < n
    → ((i : ℕ) → lowest ≤ i → i < from → slice_index c i ≢ slice_index b i)
    → ((i : ℕ) → to < i → i ≤ last → AgreeAt f m e k i → ⊥)
    → last + 1 ≤ touched (is_within from to) (record { brakes = b; speeds = take k e }) (record { brakes = c; speeds = take m f }) n + lowest
touched-stretch b c e f n k m lowest from to last long_b long_c long_e long_f known other low ordered past on changed driven =
    count_below-stretch (λ i. is_within from to i || differ_at b c i || differ_at (take k e) (take m f) i) lowest last n on
    (λ i l h. elim (cases_lt i from) [
      | inl before ↦ or_left (is_within from to i || differ_at b c i) _ (or_right (is_within from to i) _ (differ_at-brakes b c i (omega arith) (omega arith) (changed i l before)))
      | inr since ↦ elim (cases_lt to i) [
        | inl after ↦ or_right (is_within from to i || differ_at b c i) _ (differ_at-speeds e f k m i (omega arith) (omega arith) (driven i after h))
        | inr within ↦ or_left (is_within from to i || differ_at b c i) _ (or_left (is_within from to i) _ (is_within-true from to i since within))
      ]
    ])

-- a train that gets to the last of the first n points moves there
pub IsMoving-keeps : (rule : StepRule) (x q : List ℕ) (n : ℕ) → n ≤ length x → ((i : ℕ) → i < length x → slice_index x i ≤ greatest_squared_speed)
    → Keeps rule x q (n - 1) → IsMoving q n
IsMoving-keeps rule x q n points small keeps = record {
  listed = omega (arith, points, keeps.same_points);
  moving = λ i h. keeps.moving i (omega (arith, h));
  slow = λ i h. let capped = keeps.capped i (omega (arith, points, h)) in let most = small i (omega (arith, points, h)) in omega arith;
}

-- so does one with the same numbers there
pub IsMoving-same : (d e : List ℕ) (n : ℕ) → n ≤ length e → ((i : ℕ) → i < n → slice_index d i ≡ slice_index e i) → IsMoving d n → IsMoving e n
IsMoving-same d e n listed same moving = record {
  listed = listed;
  moving = λ i h. rw (← same i (omega arith), ← same (i + 1) h) (moving.moving i h);
  slow = λ i h. rw (← same i h) (moving.slow i h);
}

-- lists whose first numbers are the same list have the same numbers there
same-taken : (d e : List ℕ) (n i : ℕ) → take n d ≡ take n e → i < n → slice_index d i ≡ slice_index e i
same-taken d e n i same l = sym (get_or-take n d i 0 l) ∙ ap (λ (l : List ℕ). slice_index l i) same ∙ get_or-take n e i 0 l

-- an envelope moves to the end of the line or up to its stall
pub IsMoving-reaches : (rule : StepRule) (x e : List ℕ) (reach : Reach) → ReachesAs rule x e reach → ((i : ℕ) → i < length x → slice_index x i ≤ greatest_squared_speed)
    → length e ≡ length x → IsMoving e (count_of (length x) reach)
IsMoving-reaches rule x e Whole run small listed = IsMoving-keeps rule x e (length x) (omega arith) small run.run
IsMoving-reaches rule x e (Stalled k) (stall, envelope) small listed =
    let on = stall.on_line.1 in
    let starts = envelope.starts in
    IsMoving-same starts.0 e k (omega arith) (λ i l. same-taken starts.0 e k i starts.1 l) (IsMoving-keeps rule x starts.0 k (omega arith) small starts.2)

-- a list with the same numbers over a stretch has the same sums there
HasSums-same : (d e : List ℕ) (cell count : ℕ) (times : Bracket) → ((j : ℕ) → cell ≤ j → j ≤ cell + count → slice_index d j ≡ slice_index e j) → HasSums d cell count times → HasSums e cell count times
HasSums-same d e cell count times same sums =
    let shortest = sum_over-same (shortest_at d) (shortest_at e) cell count (λ j l m. rw (same j l (omega arith), same (j + 1) (omega arith) (omega arith)) refl) in
    let longest = sum_over-same (longest_at d) (longest_at e) cell count (λ j l m. rw (same j l (omega arith), same (j + 1) (omega arith) (omega arith)) refl) in
    record { lo = sums.lo ∙ shortest; hi = sums.hi ∙ longest }

-- what is kept of a list stands for each list with the same first numbers
pub StandsFor-same : (s : KeptSums) (d e : List ℕ) (n : ℕ) → n ≤ length e → ((i : ℕ) → i < n → slice_index d i ≡ slice_index e i) → StandsFor s d n → StandsFor s e n
StandsFor-same s d e n listed same stands = record {
  on_line = stands.on_line;
  moving = IsMoving-same d e n listed same stands.moving;
  blocks = λ block h. HasSums-same d e _ _ _ (λ j l m. same j (omega arith)) (stands.blocks block h);
}

-- so it does for the first numbers alone
pub StandsFor-known : (s : KeptSums) (e : List ℕ) (n : ℕ) → StandsFor s e n → StandsFor s (take n e) n
StandsFor-known s e n stands =
    let listed = stands.moving.listed in
    StandsFor-same s e (take n e) n (omega (arith, length-take-le n e listed)) (λ i l. sym (get_or-take n e i 0 l)) stands
