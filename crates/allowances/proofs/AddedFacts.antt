-- What sections add at a point, by the allowances that have ended there and the one that is next.
use Rattle.std.proofs.Common.{◌≡◌, ℕ, ◌+◌, ◌-◌, ◌<◌, ◌≤◌, List, [], ◌∷◌, length, get_or, take, drop, map, All, AllPairs, sum_by, arith, refl, ◌∙◌, inl, inr, get_or-drop, get_or-take, length-drop, length-take-le, sym}
use Rattle.std.proofs.lemmas.Bool.{cases_lt, le-leb, lt-leb}
use Rattle.std.proofs.lemmas.List.{get_or-map, length-map, take_all}
use Rattle.std.proofs.lemmas.List.Elements.{All-head, All-tail}
use Rattle.std.proofs.lemmas.List.Sums.{sum_by-cons, sum_by-drop_more, sum_by-le, sum_by-take-drop}
use Rattle.plan_tables.specs.declared.plan.Section.{Section}
use Rattle.plan_tables.specs.Sections.{Follows, IsSection}
use Rattle.time_brackets.specs.Sums.{longest_at, sum_over}
use Rattle.allowances.specs.declared.allowance.Allowance.{Allowance}
use Rattle.allowances.specs.Allowances.{added_by, amount_of}
use Rattle.allowances.specs.Progress.{AreAllowancesOf, EndsPast, HaveEnded, IsAllowanceOf, amount_in, section_of, share_at}
use Rattle.allowances.proofs.StretchFacts.{longest-join_at}

-- a section that has ended adds all, and one that has not begun adds nothing
added_by-ended : (e : List ℕ) (i : ℕ) (s : Section) → IsSection s → s.to ≤ i → added_by e i s ≡ amount_of e s
added_by-ended e i s is ended =
    let rises = is.rises in
    rw (lt-leb i s.from (omega arith), le-leb s.to i ended) refl

added_by-ahead : (e : List ℕ) (i : ℕ) (s : Section) → i ≤ s.from → added_by e i s ≡ 0
added_by-ahead e i s ahead = rw (le-leb i s.from ahead) refl

-- an allowance adds at a point before its end what its section does
pub added_by-share : (e : List ℕ) (i time : ℕ) (a : Allowance) → IsAllowanceOf e a → time ≡ sum_over (longest_at e) 0 i → i < a.section.to → share_at a i time ≡ added_by e i a.section
added_by-share e i time a is at inside = elim (cases_lt a.section.from i) [
  | inr ahead ↦ rw (le-leb i a.section.from ahead) refl
  | inl entered ↦
      let joined = longest-join_at e a.section.from i (omega arith) in
      let before = is.before in
      let so_far : time - a.before ≡ sum_over (longest_at e) a.section.from (i - a.section.from) = omega arith in
      rw (lt-leb i a.section.from entered, lt-leb a.section.to i inside, is.amount, is.over, so_far) refl
]

-- at a point in it the time to there is between those to its ends
pub time-begins : (e : List ℕ) (i time : ℕ) (a : Allowance) → IsAllowanceOf e a → time ≡ sum_over (longest_at e) 0 i → a.section.from < i → a.before ≤ time
time-begins e i time a is at entered =
    let joined = longest-join_at e a.section.from i (omega arith) in
    let before = is.before in
    omega arith

pub time-within : (e : List ℕ) (i time : ℕ) (a : Allowance) → IsAllowanceOf e a → time ≡ sum_over (longest_at e) 0 i → i < a.section.to → a.section.from < i → time ≤ a.before + a.over
time-within e i time a is at inside entered =
    let joined = longest-join_at e a.section.from a.section.to (omega arith) in
    let rest = longest-join_at e i a.section.to (omega arith) in
    let before = is.before in
    let over = is.over in
    omega arith

-- sums of terms that are the same, of terms that are all 0, and over a list that is mapped
sum_by-same : {X : Type 0} (f g : X → ℕ) (xs : List X) → All (λ x. f x ≡ g x) xs → sum_by f xs ≡ sum_by g xs
sum_by-same f g [] same = refl
sum_by-same f g (x ∷ xs) same =
    let first = All-head (λ y. f y ≡ g y) x xs same in
    let rest = sum_by-same f g xs (All-tail (λ y. f y ≡ g y) x xs same) in
    omega (arith, sum_by-cons f x xs, sum_by-cons g x xs, first, rest)

sum_by-none : {X : Type 0} (f : X → ℕ) (xs : List X) → All (λ x. f x ≤ 0) xs → sum_by f xs ≡ 0
sum_by-none f xs none = omega (arith, sum_by-le f 0 xs none)

sum_by-map : {X Y : Type 0} (f : Y → ℕ) (g : X → Y) (xs : List X) → sum_by f (map g xs) ≡ sum_by (λ x. f (g x)) xs
sum_by-map f g [] = refl
sum_by-map f g (x ∷ xs) = omega (arith, sum_by-cons f (g x) (map g xs), sum_by-cons (λ y. f (g y)) x xs, sum_by-map f g xs)

-- there are as many allowances as sections
pub AreAllowancesOf-length : (e : List ℕ) (sections : List Section) (allowances : List Allowance) → AreAllowancesOf e sections allowances → length sections ≡ length allowances
AreAllowancesOf-length e sections allowances are = rw (← are.sections) (length-map allowances section_of)

-- the amounts of allowances are those of their sections
amounts-map : (e : List ℕ) (allowances : List Allowance) → All (IsAllowanceOf e) allowances → map amount_in allowances ≡ map (amount_of e) (map section_of allowances)
amounts-map e [] each = refl
amounts-map e (a ∷ rest) each =
    let first = All-head (IsAllowanceOf e) a rest each in
    let more = amounts-map e rest (All-tail (IsAllowanceOf e) a rest each) in
    cc (first.amount, more)

pub AreAllowancesOf-amounts : (e : List ℕ) (sections : List Section) (allowances : List Allowance) → AreAllowancesOf e sections allowances → map amount_in allowances ≡ map (amount_of e) sections
AreAllowancesOf-amounts e sections allowances are = rw (← are.sections) (amounts-map e allowances are.each)

module _ (e : List ℕ) (i : ℕ) (sections : List Section) (allowances : List Allowance) (are : AreAllowancesOf e sections allowances)
    (hold : All IsSection sections) (follow : AllPairs Follows sections) where
  section-at : (k : ℕ) (d : Allowance) → k < length allowances → get_or sections k d.section ≡ (get_or allowances k d).section
  section-at k d within = rw (← are.sections) (get_or-map section_of allowances k d d.section within)

  is-section : (k : ℕ) (d : Allowance) → k < length allowances → IsSection (get_or allowances k d).section
  is-section k d within =
      let all = AreAllowancesOf-length e sections allowances are in
      rw (section-at k d within) at (hold k d.section (omega arith))

  follows : (j k : ℕ) (d : Allowance) → j < k → k < length allowances → (get_or allowances j d).section.to ≤ (get_or allowances k d).section.from
  follows j k d less within =
      let all = AreAllowancesOf-length e sections allowances are in
      rw (section-at j d (omega arith), section-at k d within) at (follow j k d.section less (omega arith))

  adds : Allowance → ℕ
  adds a = added_by e i a.section

  sum-of_all : sum_by (added_by e i) sections ≡ sum_by adds allowances
  unfolding adds
  sum-of_all = rw (← are.sections) (sum_by-map (added_by e i) section_of allowances)

  -- those that have ended add their amounts
  sum-ended : (count sum : ℕ) → HaveEnded allowances i count sum → sum_by adds (take count allowances) ≡ sum
  unfolding adds
  sum-ended count sum ended = sum_by-same adds amount_in (take count allowances) same ∙ sym ended.added
    where
      same : All (λ a. adds a ≡ amount_in a) (take count allowances)
      same k d within =
          let some = ended.some in
          let front = length-take-le count allowances some in
          let in_front : k < count = omega arith in
          let last : (get_or allowances k d).section.to ≤ i = rw (get_or-take count allowances k d in_front) at (ended.past k d within) in
          let is = are.each k d (omega arith) in
          rw (get_or-take count allowances k d in_front) (added_by-ended e i (get_or allowances k d).section (is-section k d (omega arith)) last ∙ sym is.amount)

  -- those behind the next add nothing
  sum-ahead : (count : ℕ) → EndsPast allowances i count → count < length allowances → sum_by adds (drop (count + 1) allowances) ≡ 0
  unfolding adds
  sum-ahead count past within = sum_by-none adds (drop (count + 1) allowances) none
    where
      none : All (λ a. adds a ≤ 0) (drop (count + 1) allowances)
      none k d behind =
          let rest = length-drop (count + 1) allowances in
          let next = past d within in
          let begins = follows count (count + 1 + k) d (omega arith) (omega arith) in
          let nothing = added_by-ahead e i (get_or allowances (count + 1 + k) d).section (omega arith) in
          rw (get_or-drop (count + 1) allowances k d) (omega (arith, nothing))

  -- what all add, where one is next, and where none is
  pub added-next : (count sum : ℕ) (d : Allowance) → HaveEnded allowances i count sum → EndsPast allowances i count → count < length allowances
      → sum_by (added_by e i) sections ≡ sum + added_by e i (get_or allowances count d).section
  unfolding adds
  added-next count sum d ended past within =
      omega (arith, sum-of_all, sum_by-take-drop adds allowances count, sum-ended count sum ended, sum_by-drop_more adds allowances count d within, sum-ahead count past within)

  pub added-all : (count sum : ℕ) → HaveEnded allowances i count sum → length allowances ≤ count → sum_by (added_by e i) sections ≡ sum
  added-all count sum ended all =
      let some = ended.some in
      let whole : take count allowances ≡ allowances = take_all count allowances all in
      sum-of_all ∙ (rw whole at (sum-ended count sum ended))
