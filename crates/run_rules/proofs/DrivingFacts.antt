-- Numbers that are driven as fast as their caps allow, from point 0 up.
use Rattle.std.proofs.Common.{◌≡◌, ℕ, zero, suc, ◌+◌, ◌-◌, ◌<◌, ◌≤◌, ℤ, pos, negsuc, ◌≤ℤ◌, List, length, slice_index, take, drop, set, ◌++◌, add-one, append-nil, arith, ap₂, refl, subst, sym, ◌∙◌, get_or-set_same, get_or-set_other, inl, inr}
use Rattle.std.proofs.lemmas.Bool.{cases_eq, cases_lt}
use Rattle.std.proofs.lemmas.Int.{ints}
use Rattle.std.proofs.lemmas.List.{places, take_at, length-take-le, get_or-take, take_all, drop_all}
use Rattle.run_rules.specs.Runs.{IsEnvelopeTo, IsGreatestRun, IsMonotone, Keeps, StepRule}
use Rattle.run_rules.specs.Walks.{IsBlockedAfter, IsNextNumber, IsOwnBrakingList}

-- caps under which the train can be driven: up to each cap neither bound of the rule falls, the least is at most the
-- greatest, and from each cap the train brakes to the next
pub record IsDrivable (rule : StepRule) (c : List ℕ) : Type 0 where
  pub up_rises : (i u v : ℕ) → i + 1 < length c → u ≤ v → v ≤ slice_index c i → rule.up i u ≤ℤ rule.up i v
  pub low_rises : (i u v : ℕ) → i + 1 < length c → u ≤ v → v ≤ slice_index c i → rule.low i u ≤ℤ rule.low i v
  pub low_le_up : (i u : ℕ) → i + 1 < length c → u ≤ slice_index c i → rule.low i u ≤ℤ rule.up i u
  pub braked : (i : ℕ) → i + 1 < length c → rule.low i (slice_index c i) ≤ℤ pos (slice_index c (i + 1))

-- as under a list that is its own braking list
pub IsDrivable-braking_list : (rule : StepRule) (cells top : ℕ) (c : List ℕ) → IsMonotone rule cells top → IsOwnBrakingList rule cells top c → IsDrivable rule c
IsDrivable-braking_list rule cells top c mono brakes =
    let points = brakes.points in
    record {
      up_rises = λ i u v l h m. mono.up_rises i u v (omega arith) h (let s = brakes.small i (omega arith) in omega arith);
      low_rises = λ i u v l h m. mono.low_rises i u v (omega arith) h (let s = brakes.small i (omega arith) in omega arith);
      low_le_up = λ i u l h. mono.low_le_up i u (omega arith) (let s = brakes.small i (omega arith) in omega arith);
      braked = brakes.list.keeps.braked;
    }

-- the first n numbers of e are each the greatest that the caps and full effort allow
pub record IsDriven (rule : StepRule) (c e : List ℕ) (n : ℕ) : Type 0 where
  pub first : slice_index e 0 ≡ slice_index c 0
  pub each : (i : ℕ) → i + 1 < n → IsNextNumber rule c e i (slice_index e (i + 1))

pub IsDriven-capped : (rule : StepRule) (c e : List ℕ) (n : ℕ) → IsDriven rule c e n → (i : ℕ) → i < n → slice_index e i ≤ slice_index c i
IsDriven-capped rule c e n driven zero l = let first = driven.first in omega arith
IsDriven-capped rule c e n driven (suc i) l = rw add-one at (driven.each i (omega arith)).capped

-- no list that keeps the rule as far as they go is above them: by the points from the first up
pub IsDriven-most : (rule : StepRule) (c e q : List ℕ) (n k : ℕ) → IsDrivable rule c → IsDriven rule c e n → n ≤ length c → n ≤ k + 1 → Keeps rule c q k
    → (i : ℕ) → i < n → slice_index q i ≤ slice_index e i
IsDriven-most rule c e q n k line driven on far keeps zero l =
    let capped = keeps.capped 0 (omega arith) in
    let first = driven.first in
    omega arith
IsDriven-most rule c e q n k line driven on far keeps (suc i) l =
    let before : slice_index q i ≤ slice_index e i = IsDriven-most rule c e q n k line driven on far keeps i (omega arith) in
    let rises = line.up_rises i (slice_index q i) (slice_index e i) (omega arith) before (IsDriven-capped rule c e n driven i (omega arith)) in
    let drives = keeps.driven i (omega arith) in
    let most = (driven.each i (omega arith)).greatest (slice_index q (i + 1)) (keeps.capped (i + 1) (omega arith)) (omega (arith, ints)) in
    rw add-one at most

-- the first n numbers of e, and then the caps
abbrev pub joined : List ℕ → List ℕ → ℕ → List ℕ
joined e c n = take n e ++ drop n c

pub joined-before : (e c : List ℕ) (n i : ℕ) → n ≤ length e → i < n → slice_index (joined e c n) i ≡ slice_index e i
joined-before e c n i long l = grind (arith, places)

joined-after : (e c : List ℕ) (n i : ℕ) → n ≤ length e → n ≤ i → slice_index (joined e c n) i ≡ slice_index c i
joined-after e c n i long l = grind (arith, places)

length-joined : (e c : List ℕ) (n : ℕ) → n ≤ length e → n ≤ length c → length (joined e c n) ≡ length c
length-joined e c n long on = grind (arith, places)

take-joined : (e c : List ℕ) (n : ℕ) → n ≤ length e → take n (joined e c n) ≡ take n e
take-joined e c n long = take_at (take n e) (drop n c) n (length-take-le n e long)

joined-all : (e c : List ℕ) → length e ≡ length c → joined e c (length c) ≡ e
joined-all e c same = ap₂ (λ a b. a ++ b) (take_all (length c) e (omega arith)) (drop_all (length c) c (omega arith)) ∙ append-nil e

-- what the greatest number under a cap and a bound is no less than: each number that both allow, also one below 0
greatest-least : (z bound : ℤ) (cap most : ℕ) → z ≤ℤ pos cap → z ≤ℤ bound → ((w : ℕ) → w ≤ cap → pos w ≤ℤ bound → w ≤ most) → z ≤ℤ pos most
greatest-least (pos w) bound cap most capped bounded greatest = let least = greatest w (omega (arith, ints)) bounded in omega (arith, ints)
greatest-least (negsuc w) bound cap most capped bounded greatest = omega (arith, ints)

-- driven numbers brake too: the cap brakes to the next cap, and full effort is never less than full brakes
driven_braked : (rule : StepRule) (c e : List ℕ) (n : ℕ) → IsDrivable rule c → IsDriven rule c e n → n ≤ length c → (i : ℕ) → i + 1 < n → rule.low i (slice_index e i) ≤ℤ pos (slice_index e (i + 1))
driven_braked rule c e n line driven on i l =
    let capped = IsDriven-capped rule c e n driven i (omega arith) in
    let rises = line.low_rises i (slice_index e i) (slice_index c i) (omega arith) capped (omega arith) in
    let braked = line.braked i (omega arith) in
    let under = line.low_le_up i (slice_index e i) (omega arith) capped in
    greatest-least (rule.low i (slice_index e i)) (rule.up i (slice_index e i)) (slice_index c (i + 1)) (slice_index e (i + 1)) (omega (arith, ints)) under (driven.each i l).greatest

-- and the last of them to the cap that follows
last_braked : (rule : StepRule) (c e : List ℕ) (n : ℕ) → IsDrivable rule c → IsDriven rule c e n → (i : ℕ) → i < n → i + 1 < length c → rule.low i (slice_index e i) ≤ℤ pos (slice_index c (i + 1))
last_braked rule c e n line driven i l on =
    let rises = line.low_rises i (slice_index e i) (slice_index c i) on (IsDriven-capped rule c e n driven i l) (omega arith) in
    let braked = line.braked i on in
    omega (arith, ints)

joined_braked : (rule : StepRule) (c e : List ℕ) (n : ℕ) → IsDrivable rule c → IsDriven rule c e n → n ≤ length e → n ≤ length c
    → (i : ℕ) → i + 1 < length c → rule.low i (slice_index (joined e c n) i) ≤ℤ pos (slice_index (joined e c n) (i + 1))
joined_braked rule c e n line driven long on i l =
    elim (cases_lt i n) [
      | inl h ↦ elim (cases_lt (i + 1) n) [
        | inl k ↦ rw (joined-before e c n i long h, joined-before e c n (i + 1) long k) (driven_braked rule c e n line driven on i k)
        | inr k ↦ rw (joined-before e c n i long h, joined-after e c n (i + 1) long k) (last_braked rule c e n line driven i h l)
      ]
      | inr h ↦ rw (joined-after e c n i long h, joined-after e c n (i + 1) long (omega arith)) (line.braked i l)
    ]

joined_capped : (rule : StepRule) (c e : List ℕ) (n : ℕ) → IsDriven rule c e n → n ≤ length e → (i : ℕ) → slice_index (joined e c n) i ≤ slice_index c i
joined_capped rule c e n driven long i =
    elim (cases_lt i n) [
      | inl h ↦ rw (joined-before e c n i long h) (IsDriven-capped rule c e n driven i h)
      | inr h ↦ rw (joined-after e c n i long h) (omega arith)
    ]

-- driven numbers followed by the caps keep the rule as far as the numbers go
pub joined_keeps : (rule : StepRule) (c e : List ℕ) (n : ℕ) → IsDrivable rule c → IsDriven rule c e n → n ≤ length e → n ≤ length c → Keeps rule c (joined e c n) (n - 1)
joined_keeps rule c e n line driven long on = record {
  same_points = length-joined e c n long on;
  capped = λ i l. joined_capped rule c e n driven long i;
  braked = joined_braked rule c e n line driven long on;
  driven = λ i l. rw (joined-before e c n i long (omega arith), joined-before e c n (i + 1) long (omega arith)) (driven.each i (omega arith)).driven;
  moving = λ i l. rw (joined-before e c n i long (omega arith), joined-before e c n (i + 1) long (omega arith)) (driven.each i (omega arith)).moving;
}

-- so they are the envelope as far as they go
pub IsEnvelopeTo-driven : (rule : StepRule) (c e : List ℕ) (n : ℕ) → IsDrivable rule c → IsDriven rule c e n → n ≤ length e → n ≤ length c → 1 ≤ n → IsEnvelopeTo rule c (take n e) n
IsEnvelopeTo-driven rule c e n line driven long on some = record {
  long = length-take-le n e long;
  starts = (joined e c n, take-joined e c n long, joined_keeps rule c e n line driven long on);
  greatest = λ q keeps i l. rw (get_or-take n e i 0 l) (IsDriven-most rule c e q n (n - 1) line driven on (omega arith) keeps i l);
}

-- and over the whole line the greatest run
pub IsGreatestRun-driven : (rule : StepRule) (c e : List ℕ) → IsDrivable rule c → IsDriven rule c e (length c) → length e ≡ length c → IsGreatestRun rule c e
IsGreatestRun-driven rule c e line driven same = record {
  run = subst (λ q. Keeps rule c q (length c - 1)) (joined-all e c same) (joined_keeps rule c e (length c) line driven (omega arith) (omega arith));
  greatest = λ q keeps i l. IsDriven-most rule c e q (length c) (length c - 1) line driven (omega arith) (omega arith) keeps i l;
}

-- the next number looks at the number before the cell and the cap after it alone
pub IsNextNumber-same : (rule : StepRule) (b c d e : List ℕ) (i v w : ℕ) → slice_index b (i + 1) ≡ slice_index c (i + 1) → slice_index d i ≡ slice_index e i → v ≡ w → IsNextNumber rule b d i v → IsNextNumber rule c e i w
IsNextNumber-same rule b c d e i v w cap now next number = record {
  capped = rw (cap, next) at number.capped;
  driven = rw (now, next) at number.driven;
  moving = rw (now, next) at number.moving;
  greatest = λ u h k. rw next at (number.greatest u (rw (← cap) at h) (rw (← now) at k));
}

pub IsBlockedAfter-same : (rule : StepRule) (b c d e : List ℕ) (i : ℕ) → slice_index b (i + 1) ≡ slice_index c (i + 1) → slice_index d i ≡ slice_index e i → IsBlockedAfter rule b d i → IsBlockedAfter rule c e i
IsBlockedAfter-same rule b c d e i cap now blocked u h k = rw now at (blocked u (rw (← cap) at h) (rw (← now) at k))

-- it is written after driven numbers
pub IsDriven-set : (rule : StepRule) (c e : List ℕ) (i w : ℕ) → i + 1 < length e → IsDriven rule c e (i + 1) → IsNextNumber rule c e i w → IsDriven rule c (set e (i + 1) w) (i + 1 + 1)
IsDriven-set rule c e i w on driven number = record {
  first = get_or-set_other e (i + 1) 0 w 0 (omega arith) ∙ driven.first;
  each = λ j l. elim (cases_eq j i) [
    | inl s ↦ rw s (IsNextNumber-same rule c c e (set e (i + 1) w) i w (slice_index (set e (i + 1) w) (i + 1)) refl (sym (get_or-set_other e (i + 1) i w 0 (omega arith))) (sym (get_or-set_same e (i + 1) w 0 on)) number)
    | inr n ↦ IsNextNumber-same rule c c e (set e (i + 1) w) j (slice_index e (j + 1)) (slice_index (set e (i + 1) w) (j + 1)) refl (sym (get_or-set_other e (i + 1) j w 0 (omega arith))) (sym (get_or-set_other e (i + 1) (j + 1) w 0 (omega arith))) (driven.each j (omega arith))
  ];
}

-- or stands there already
pub IsDriven-next : (rule : StepRule) (c e : List ℕ) (i w : ℕ) → IsDriven rule c e (i + 1) → IsNextNumber rule c e i w → slice_index e (i + 1) ≡ w → IsDriven rule c e (i + 1 + 1)
IsDriven-next rule c e i w driven number same = record {
  first = driven.first;
  each = λ j l. elim (cases_eq j i) [
    | inl s ↦ rw s (IsNextNumber-same rule c c e e i w (slice_index e (i + 1)) refl refl (sym same) number)
    | inr n ↦ driven.each j (omega arith)
  ];
}

-- a list with the same numbers is as driven
pub IsDriven-same : (rule : StepRule) (c d e : List ℕ) (n : ℕ) → 1 ≤ n → ((i : ℕ) → i < n → slice_index d i ≡ slice_index e i) → IsDriven rule c d n → IsDriven rule c e n
IsDriven-same rule c d e n some same driven = record {
  first = sym (same 0 some) ∙ driven.first;
  each = λ i l. IsNextNumber-same rule c c d e i (slice_index d (i + 1)) (slice_index e (i + 1)) refl (same i (omega arith)) (same (i + 1) l) (driven.each i l);
}
