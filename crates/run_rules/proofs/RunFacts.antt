-- What holds of every step rule and all lists of numbers.
use Rattle.std.proofs.Common.{◌≡◌, ℕ, ◌+◌, ◌-◌, ◌<◌, ◌≤◌, pos, ◌≤ℤ◌, List, length, slice_index, max, ◌⊎◌, inl, inr, arith}
use Rattle.std.proofs.lemmas.Int.{ints}
use Rattle.std.proofs.lemmas.Bool.{cases_lt}
use Rattle.run_rules.specs.Laws.{GreaterKeeps, IsGreaterOf, RunsOrStalls, StallsOnce}
use Rattle.run_rules.specs.Runs.{IsMonotone, IsStalled, Keeps, StepRule}

-- the greater of two numbers is one of them
max-either : (a b m : ℕ) → m ≡ max a b → (m ≡ a) ⊎ (m ≡ b)
max-either a b m e = elim (cases_lt a b) [ inl h ↦ inr (omega arith) | inr h ↦ inl (omega arith) ]

greater_braked : (rule : StepRule) (x q r m : List ℕ) (k : ℕ) → Keeps rule x q k → Keeps rule x r k → IsGreaterOf q r m (length x)
    → (i : ℕ) → i + 1 < length x → rule.low i (slice_index m i) ≤ℤ pos (slice_index m (i + 1))
greater_braked rule x q r m k a b g i l =
    let next = g.greater (i + 1) l in
    let first = a.braked i l in
    let second = b.braked i l in
    elim (max-either (slice_index q i) (slice_index r i) (slice_index m i) (g.greater i (omega arith))) [
      | inl e ↦ rw e (omega (arith, ints, next, first))
      | inr e ↦ rw e (omega (arith, ints, next, second))
    ]

greater_driven : (rule : StepRule) (x q r m : List ℕ) (k top : ℕ) → IsMonotone rule (length x - 1) top → ((i : ℕ) → i < length x → slice_index x i ≤ top) → k < length x
    → Keeps rule x q k → Keeps rule x r k → IsGreaterOf q r m (length x) → (i : ℕ) → i < k → pos (slice_index m (i + 1)) ≤ℤ rule.up i (slice_index m i)
greater_driven rule x q r m k top mono small on a b g i l =
    let here = g.greater i (omega arith) in
    let next = g.greater (i + 1) (omega arith) in
    let q_small = a.capped i (omega arith) in
    let r_small = b.capped i (omega arith) in
    let x_small = small i (omega arith) in
    let q_up = mono.up_rises i (slice_index q i) (slice_index m i) (omega arith) (omega arith) (omega arith) in
    let r_up = mono.up_rises i (slice_index r i) (slice_index m i) (omega arith) (omega arith) (omega arith) in
    let first = a.driven i l in
    let second = b.driven i l in
    elim (max-either (slice_index q (i + 1)) (slice_index r (i + 1)) (slice_index m (i + 1)) next) [
      | inl e ↦ rw e (omega (arith, ints, first, q_up))
      | inr e ↦ rw e (omega (arith, ints, second, r_up))
    ]

pub greater_keeps : GreaterKeeps
greater_keeps rule x q r m k top mono small on a b g = record {
  same_points = g.same_points;
  capped = λ i l. let here = g.greater i l in let first = a.capped i l in let second = b.capped i l in omega arith;
  braked = greater_braked rule x q r m k a b g;
  driven = greater_driven rule x q r m k top mono small on a b g;
  moving = λ i l. let here = g.greater i (omega arith) in let next = g.greater (i + 1) (omega arith) in let first = a.moving i l in omega arith;
}

-- what keeps the rule up to a point keeps it up to each point before
pub keeps_less : (rule : StepRule) (x q : List ℕ) (j k : ℕ) → j ≤ k → Keeps rule x q k → Keeps rule x q j
keeps_less rule x q j k h keeps = record {
  same_points = keeps.same_points;
  capped = keeps.capped;
  braked = keeps.braked;
  driven = λ i l. keeps.driven i (omega arith);
  moving = λ i l. keeps.moving i (omega arith);
}

-- where a list gets to the point before k, the train is not stalled below k
not_below : (rule : StepRule) (x : List ℕ) (j k : ℕ) → IsStalled rule x j → IsStalled rule x k → j < k → ⊥
not_below rule x j k s t l = s.none t.some.0 (keeps_less rule x t.some.0 j (k - 1) (omega arith) t.some.1)

pub stalls_once : StallsOnce
stalls_once rule x j k s t = elim (cases_lt j k) [
  | inl l ↦ absurd (not_below rule x j k s t l)
  | inr l ↦ elim (cases_lt k j) [ inl m ↦ absurd (not_below rule x k j t s m) | inr m ↦ omega arith ]
]

pub runs_or_stalls : RunsOrStalls
runs_or_stalls rule x q k run s = s.none q (keeps_less rule x q k (length x - 1) (omega (arith, s.on_line.1)) run)
