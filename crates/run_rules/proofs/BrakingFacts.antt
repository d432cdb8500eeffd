-- Braking lists: by the greatest number at each point, and taken as caps.
use Rattle.std.proofs.Common.{◌≡◌, ℕ, zero, suc, ◌+◌, ◌-◌, ◌<◌, ◌≤◌, pos, ◌≤ℤ◌, List, length, replicate, slice_index, set, arith, refl, sym, ◌∙◌, length-set, get_or-set_same, get_or-set_other, inl, inr}
use Rattle.std.proofs.lemmas.Bool.{cases_eq, cases_lt}
use Rattle.std.proofs.lemmas.Int.{ints}
use Rattle.std.proofs.lemmas.List.{get_or-replicate, length-replicate}
use Rattle.run_rules.specs.Laws.{BrakesAlikeBelow, BrakesAlikePast, StandingBrakes}
use Rattle.run_rules.specs.Runs.{IsBrakingList, Keeps, StepRule}
use Rattle.run_rules.specs.Walks.{AgreeOutside, IsGreatestAt, IsGreatestNumber}
use Rattle.run_rules.proofs.RunFacts.{keeps_less}

-- c has the greatest number at each point from p on
abbrev pub IsGreatestFrom : StepRule → List ℕ → List ℕ → ℕ → Type 0
IsGreatestFrom rule x c p = (i : ℕ) → p ≤ i → i < length x → IsGreatestAt rule x c i

-- then no list that keeps the rule is above it: by the points from the last down, n of which are past i
braked_most : (rule : StepRule) (x c q : List ℕ) (p : ℕ) → IsGreatestFrom rule x c p → Keeps rule x q 0
    → (n i : ℕ) → p ≤ i → i + n + 1 ≡ length x → slice_index q i ≤ slice_index c i
braked_most rule x c q p each keeps zero i h e = (each i h (omega arith)).greatest (slice_index q i) (keeps.capped i (omega arith)) (λ l. absurd (omega arith))
braked_most rule x c q p each keeps (suc n) i h e =
    let next : slice_index q (i + 1) ≤ slice_index c (i + 1) = braked_most rule x c q p each keeps n (i + 1) (omega arith) (omega arith) in
    (each i h (omega arith)).greatest (slice_index q i) (keeps.capped i (omega arith)) (λ l. let brakes = keeps.braked i l in omega (arith, ints))

-- the list that has the greatest number at each point is the braking list
pub braking_list_by_points : (rule : StepRule) (x c : List ℕ) → length c ≡ length x → ((i : ℕ) → i < length x → IsGreatestAt rule x c i) → IsBrakingList rule x c
braking_list_by_points rule x c same each = record {
  keeps = record {
    same_points = same;
    capped = λ i l. (each i l).capped;
    braked = λ i l. (each i (omega arith)).braked l;
    driven = λ i l. absurd (omega arith);
    moving = λ i l. absurd (omega arith);
  };
  greatest = λ q keeps i l. braked_most rule x c q 0 (λ j h. each j) keeps (length x - i - 1) i (omega arith) (omega arith);
}

-- a greater number that brakes too can be written at a point
raised_keeps : (rule : StepRule) (x c : List ℕ) (i v : ℕ) → Keeps rule x c 0 → i < length x → slice_index c i < v → v ≤ slice_index x i
    → (i + 1 < length x → rule.low i v ≤ℤ pos (slice_index c (i + 1))) → Keeps rule x (set c i v) 0
raised_keeps rule x c i v keeps l more cap brakes =
    let long = keeps.same_points in
    record {
      same_points = length-set c i v ∙ keeps.same_points;
      capped = λ j h. elim (cases_eq j i) [
        | inl e ↦ rw (e, get_or-set_same c i v 0 (omega arith)) cap
        | inr n ↦ rw (get_or-set_other c i j v 0 n) (keeps.capped j h)
      ];
      braked = λ j h. elim (cases_eq j i) [
        | inl e ↦ rw (e, get_or-set_same c i v 0 (omega arith), get_or-set_other c i (i + 1) v 0 (omega arith)) (brakes (omega arith))
        | inr n ↦ rw (get_or-set_other c i j v 0 n) (elim (cases_eq (j + 1) i) [
          | inl e ↦ rw (e, get_or-set_same c i v 0 (omega arith)) (let brakes_before = rw e at (keeps.braked j h) in omega (arith, ints))
          | inr m ↦ rw (get_or-set_other c i (j + 1) v 0 m) (keeps.braked j h)
        ])
      ];
      driven = λ j h. absurd (omega arith);
      moving = λ j h. absurd (omega arith);
    }

-- so the braking list has the greatest number at each point
pub points_by_braking_list : (rule : StepRule) (x c : List ℕ) → IsBrakingList rule x c → (i : ℕ) → i < length x → IsGreatestAt rule x c i
points_by_braking_list rule x c list i l = record {
  capped = list.keeps.capped i l;
  braked = λ h. list.keeps.braked i h;
  greatest = λ v h brakes. elim (cases_lt (slice_index c i) v) [
    | inl more ↦
        let long = list.keeps.same_points in
        rw (get_or-set_same c i v 0 (omega arith)) at (list.greatest (set c i v) (raised_keeps rule x c i v list.keeps l more h brakes) i l)
    | inr g ↦ g
  ];
}

-- the greatest number at a point looks at the next number of the list alone
pub IsGreatestNumber-same : (rule : StepRule) (x c d : List ℕ) (i u v : ℕ) → slice_index c (i + 1) ≡ slice_index d (i + 1) → u ≡ v → IsGreatestNumber rule x c i u → IsGreatestNumber rule x d i v
IsGreatestNumber-same rule x c d i u v next same number = record {
  capped = rw same at number.capped;
  braked = λ l. rw (next, same) at (number.braked l);
  greatest = λ w h brakes. rw same at (number.greatest w h (λ l. rw (← next) at (brakes l)));
}

-- it is written at point p, past which all numbers are the greatest
pub IsGreatestFrom-set : (rule : StepRule) (x c : List ℕ) (p u : ℕ) → length c ≡ length x → p < length x → IsGreatestFrom rule x c (p + 1) → IsGreatestNumber rule x c p u → IsGreatestFrom rule x (set c p u) p
IsGreatestFrom-set rule x c p u same on each number i h l =
    elim (cases_eq i p) [
      | inl e ↦ rw e (IsGreatestNumber-same rule x c (set c p u) p u (slice_index (set c p u) p) (sym (get_or-set_other c p (p + 1) u 0 (omega arith))) (sym (get_or-set_same c p u 0 (omega arith))) number)
      | inr n ↦ IsGreatestNumber-same rule x c (set c p u) i (slice_index c i) (slice_index (set c p u) i) (sym (get_or-set_other c p (i + 1) u 0 (omega arith))) (sym (get_or-set_other c p i u 0 n)) (each i (omega arith) l)
    ]

-- where the number before p is as it was, so are all below it, and they stand
pub IsGreatestFrom-stands : (rule : StepRule) (x old c : List ℕ) (p from u : ℕ) → 0 < p → p ≤ from → ((i : ℕ) → i < from → IsGreatestAt rule x old i)
    → ((i : ℕ) → i < p → slice_index c i ≡ slice_index old i) → IsGreatestFrom rule x c p → IsGreatestNumber rule x c (p - 1) u → u ≡ slice_index c (p - 1) → IsGreatestFrom rule x c 0
IsGreatestFrom-stands rule x old c p from u some most before kept each number same i z l =
    elim (cases_lt i p) [
      | inl h ↦ elim (cases_eq i (p - 1)) [
        | inl e ↦ rw e (IsGreatestNumber-same rule x c c (p - 1) u (slice_index c (p - 1)) refl same number)
        | inr n ↦ IsGreatestNumber-same rule x old c i (slice_index old i) (slice_index c i) (sym (kept (i + 1) (omega arith))) (sym (kept i h)) (before i (omega arith))
      ]
      | inr h ↦ each i h l
    ]

-- a list keeps the caps exactly where it keeps their braking list
pub keeps_braking_list : (rule : StepRule) (x c q : List ℕ) (k : ℕ) → IsBrakingList rule x c → Keeps rule x q k → Keeps rule c q k
keeps_braking_list rule x c q k list keeps =
    let same = list.keeps.same_points in
    record {
      same_points = let own = keeps.same_points in omega arith;
      capped = λ i l. list.greatest q (keeps_less rule x q 0 k (omega arith) keeps) i (omega arith);
      braked = λ i l. keeps.braked i (omega arith);
      driven = keeps.driven;
      moving = keeps.moving;
    }

pub keeps_caps : (rule : StepRule) (x c q : List ℕ) (k : ℕ) → IsBrakingList rule x c → Keeps rule c q k → Keeps rule x q k
keeps_caps rule x c q k list keeps =
    let same = list.keeps.same_points in
    record {
      same_points = let own = keeps.same_points in omega arith;
      capped = λ i l. let under = list.keeps.capped i l in let own = keeps.capped i (omega arith) in omega arith;
      braked = λ i l. keeps.braked i (omega arith);
      driven = keeps.driven;
      moving = keeps.moving;
    }

-- a train that stands everywhere stands at each point
slice_index-standing : (n i : ℕ) → i < n → slice_index (replicate n 0) i ≡ 0
slice_index-standing n i l = get_or-replicate {A = ℕ} n i 0 0 l

pub standing_brakes : StandingBrakes
standing_brakes rule x top mono = record {
  same_points = length-replicate {A = ℕ} (length x) 0;
  capped = λ i l. rw (slice_index-standing (length x) i l) (omega arith);
  braked = λ i l. rw (slice_index-standing (length x) i (omega arith), slice_index-standing (length x) (i + 1) l) (let stops = mono.stops i (omega arith) in omega (arith, ints));
  driven = λ i l. absurd (omega arith);
  moving = λ i l. absurd (omega arith);
}

-- braking lists agree at a point where their caps do and where they agree at the next
IsGreatestAt-agree : (rule : StepRule) (x y c d : List ℕ) (i : ℕ) → length x ≡ length y → slice_index x i ≡ slice_index y i → (i + 1 < length x → slice_index c (i + 1) ≡ slice_index d (i + 1))
    → IsGreatestAt rule x c i → IsGreatestAt rule y d i → slice_index c i ≡ slice_index d i
IsGreatestAt-agree rule x y c d i same cap next a b =
    let capped = a.capped in
    let under = b.capped in
    let most = a.greatest (slice_index d i) (omega arith) (λ l. rw (next l) (b.braked (omega arith))) in
    let least = b.greatest (slice_index c i) (omega arith) (λ l. rw (← next (omega arith)) (a.braked (omega arith))) in
    omega arith

-- so they agree from the end of the line down to the caps that differ, with n points past i
agree_past : (rule : StepRule) (x y c d : List ℕ) (from to : ℕ) → AgreeOutside x y from to → IsBrakingList rule x c → IsBrakingList rule y d
    → (n i : ℕ) → to < i → i + n + 1 ≡ length x → slice_index c i ≡ slice_index d i
agree_past rule x y c d from to agree a b zero i h e =
    let same = agree.same_points in
    IsGreatestAt-agree rule x y c d i same (agree.agrees i (inr h)) (λ l. absurd (omega arith)) (points_by_braking_list rule x c a i (omega arith)) (points_by_braking_list rule y d b i (omega arith))
agree_past rule x y c d from to agree a b (suc n) i h e =
    let same = agree.same_points in
    let next = agree_past rule x y c d from to agree a b n (i + 1) (omega arith) (omega arith) in
    IsGreatestAt-agree rule x y c d i same (agree.agrees i (inr h)) (λ l. next) (points_by_braking_list rule x c a i (omega arith)) (points_by_braking_list rule y d b i (omega arith))

pub brakes_alike_past : BrakesAlikePast
brakes_alike_past rule x y c d from to i agree a b h l = agree_past rule x y c d from to agree a b (length x - i - 1) i h (omega arith)

-- and from a point below them down, n points below it
agree_below : (rule : StepRule) (x y c d : List ℕ) (from to j : ℕ) → AgreeOutside x y from to → IsBrakingList rule x c → IsBrakingList rule y d → j < from → j < length x → slice_index c j ≡ slice_index d j
    → (n i : ℕ) → i + n ≡ j → slice_index c i ≡ slice_index d i
agree_below rule x y c d from to j agree a b h l there zero i e = let here : i ≡ j = omega arith in rw here there
agree_below rule x y c d from to j agree a b h l there (suc n) i e =
    let same = agree.same_points in
    let next = agree_below rule x y c d from to j agree a b h l there n (i + 1) (omega arith) in
    IsGreatestAt-agree rule x y c d i same (agree.agrees i (inl (omega arith))) (λ k. next) (points_by_braking_list rule x c a i (omega arith)) (points_by_braking_list rule y d b i (omega arith))

pub brakes_alike_below : BrakesAlikeBelow
brakes_alike_below rule x y c d from to i j agree a b h l there m = agree_below rule x y c d from to j agree a b h l there (j - i) i (omega arith)
