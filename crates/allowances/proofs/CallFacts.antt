-- The calls of a plan before a point, and their dwells.
use Rattle.std.proofs.Common.{◌≡◌, ℕ, ◌+◌, ◌<◌, ◌≤◌, Bool, true, false, nat_lt, cond, if◌then◌else◌, List, [], ◌∷◌, length, get_or, take, drop, All, sum_by, filter, arith, refl, ◌∙◌, inl, inr, get_or-drop, get_or-take, length-drop, length-take-le}
use Rattle.plan_tables.specs.declared.plan.Call.{Call}
use Rattle.plan_tables.specs.declared.plan.CallKind.{CallKind}
use Rattle.plan_tables.specs.declared.plan.CallKind.TheVariants.{Stop, Pass}
use Rattle.plan_tables.specs.Calls.{IsCallKind}
use Rattle.plan_tables.specs.Limits.{longest_dwell}
use Rattle.plan_tables.specs.Plan.{IsPlan, PlanLiesOn, PlanView}
use Rattle.allowances.specs.Arrivals.{dwell_at, dwell_of, is_before, seconds_before}
use Rattle.std.proofs.lemmas.List.Elements.{All-filter, All-head, All-tail, All-weaker, filter-append, filter_more}
use Rattle.std.proofs.lemmas.List.{append-nil, get_or_default, take-append-drop}
use Rattle.std.proofs.lemmas.Bool.{cases_lt, le-ltb, lt-ltb}
use Rattle.std.proofs.lemmas.List.Sums.{count_by-le-length, length-filter, sum_by-append, sum_by-le}

pub dwell_of-le : (kind : CallKind) → IsCallKind kind → dwell_of kind ≤ longest_dwell
dwell_of-le (Stop dwell) is = is
dwell_of-le Pass is = omega arith

-- c is the call with index k
pub record IsCallAt (plan : PlanView) (k : ℕ) (c : Call) : Type 0 where
  pub within : k < length plan.calls
  pub is : c ≡ get_or plan.calls k c

-- the seconds before a point are few: a departure within a day, and a day for each of a thousand stops
pub seconds_before-small : (plan : PlanView) (i : ℕ) → IsPlan plan → seconds_before plan i ≤ 86486400
seconds_before-small plan i is =
    let departs = is.departs in
    let few = is.calls.few in
    let kept = length-filter (is_before i) plan.calls in
    let fewer = count_by-le-length (is_before i) plan.calls in
    let short = All-weaker (λ c. IsCallKind c.kind) (λ c. dwell_at c ≤ longest_dwell) (λ c. dwell_of-le c.kind) plan.calls is.calls.dwell in
    let dwells = sum_by-le dwell_at longest_dwell (filter (is_before i) plan.calls) (All-filter (is_before i) (λ c. dwell_at c ≤ longest_dwell) plan.calls short) in
    omega (arith, dwells)

filter-all : {X : Type 0} (p : X → Bool) (xs : List X) → All (λ x. p x ≡ true) xs → filter p xs ≡ xs
filter-all p [] all = refl
filter-all p (x ∷ xs) all =
    let first = All-head (λ y. p y ≡ true) x xs all in
    let rest = filter-all p xs (All-tail (λ y. p y ≡ true) x xs all) in
    rw (first, rest) refl

filter-none : {X : Type 0} (p : X → Bool) (xs : List X) → All (λ x. p x ≡ false) xs → filter p xs ≡ []
filter-none p [] none = refl
filter-none p (x ∷ xs) none =
    let first = All-head (λ y. p y ≡ false) x xs none in
    let rest = filter-none p xs (All-tail (λ y. p y ≡ false) x xs none) in
    rw (first, rest) refl

-- where so many calls come before a point and no other does, they are those before it
calls-before : (calls : List Call) (k i : ℕ) → All (λ c. c.at < i) (take k calls) → All (λ c. i ≤ c.at) (drop k calls) → filter (is_before i) calls ≡ take k calls
calls-before calls k i before behind =
    let front = filter-all (is_before i) (take k calls) (All-weaker (λ c. c.at < i) (λ c. is_before i c ≡ true) (λ c h. lt-ltb c.at i h) (take k calls) before) in
    let rest = filter-none (is_before i) (drop k calls) (All-weaker (λ c. i ≤ c.at) (λ c. is_before i c ≡ false) (λ c h. le-ltb c.at i h) (drop k calls) behind) in
    let parts = filter-append (is_before i) (take k calls) (drop k calls) in
    let whole = take-append-drop k calls in
    rw whole at parts ∙ (rw (front, rest) (append-nil (take k calls)))

-- none come before point 0
pub seconds_before-start : (plan : PlanView) → seconds_before plan 0 ≡ plan.depart
seconds_before-start plan =
    let none = filter-none (is_before 0) plan.calls (λ k d within. le-ltb (get_or plan.calls k d).at 0 (omega arith)) in
    rw none (omega arith)

module _ (plan : PlanView) (is : IsPlan plan) (k : ℕ) (c : Call) (here : IsCallAt plan k c) where
  -- the calls before one come before its point, and the others don't
  earlier : All (λ d. d.at < c.at) (take k plan.calls)
  earlier j e inside =
      let within = here.within in
      let front = length-take-le k plan.calls (omega arith) in
      let less : j < k = omega arith in
      let within_j : j < length plan.calls = omega arith in
      let rises : (get_or plan.calls j c).at < c.at = rw (← here.is) at (is.calls.rise j k c less within) in
      rw (get_or-take k plan.calls j e less, get_or_default plan.calls j e c within_j) rises

  later-on : All (λ d. c.at ≤ d.at) (drop k plan.calls)
  later-on j e inside =
      let rest = length-drop k plan.calls in
      let within_j : k + j < length plan.calls = omega arith in
      rw (get_or-drop k plan.calls j e, get_or_default plan.calls (k + j) e c within_j) (elim (cases_lt 0 j) [
        | inl further ↦ let rises = rw (← here.is) at (is.calls.rise k (k + j) c (omega arith) within_j) in omega arith
        | inr there ↦ let same : k + j ≡ k = omega arith in rw (same, ← here.is) (omega arith)
      ])

  pub IsCallAt-none_later : All (λ d. d.at ≤ c.at) (take k plan.calls)
  IsCallAt-none_later = All-weaker (λ d. d.at < c.at) (λ d. d.at ≤ c.at) (λ d h. omega arith) (take k plan.calls) earlier

  -- the second of departure and the dwells of the calls before one: on a line on which it lies, they all come before the end
  pub IsCallAt-seconds : (metres : ℕ) → PlanLiesOn metres plan
      → plan.depart + sum_by dwell_at (filter (is_before metres) (take k plan.calls)) ≡ seconds_before plan c.at
  IsCallAt-seconds metres lies =
      let on_line : c.at ≤ metres = rw (← here.is) at (lies.calls k c here.within) in
      let before = All-weaker (λ d. d.at < c.at) (λ d. is_before metres d ≡ true) (λ d h. lt-ltb d.at metres (omega arith)) (take k plan.calls) earlier in
      rw (filter-all (is_before metres) (take k plan.calls) before, calls-before plan.calls k c.at earlier later-on) refl

-- it is one of the calls up to it
pub IsCallAt-up_to : (plan : PlanView) (k : ℕ) (c : Call) → IsCallAt plan k c → (i : ℕ) → All (λ d. d.at ≤ i) (take (k + 1) plan.calls) → c.at ≤ i
IsCallAt-up_to plan k c here i all =
    let within = here.within in
    let front = length-take-le (k + 1) plan.calls (omega arith) in
    let last : k < k + 1 = omega arith in
    let at : (get_or plan.calls k c).at ≤ i = rw (get_or-take (k + 1) plan.calls k c last) at (all k c (omega arith)) in
    rw here.is at

-- one call more
pub IsCallAt-dwells : (plan : PlanView) (metres k : ℕ) (c : Call) → IsCallAt plan k c
    → sum_by dwell_at (filter (is_before metres) (take (k + 1) plan.calls)) ≡ sum_by dwell_at (filter (is_before metres) (take k plan.calls)) + (if nat_lt c.at metres then dwell_at c else 0)
IsCallAt-dwells plan metres k c here =
    rw (filter_more (is_before metres) plan.calls k c here.within, ← here.is, sum_by-append dwell_at (filter (is_before metres) (take k plan.calls)) (cond (is_before metres c) (c ∷ []) [])) (elim (cases_lt c.at metres) [
      | inl before ↦ rw (lt-ltb c.at metres before) (omega arith)
      | inr there ↦ rw (le-ltb c.at metres there) refl
    ])
