-- What is kept of a list's sums.
use Rattle.std.proofs.Common.{◌≡◌, ℕ, ◌+◌, ◌*◌, ◌/◌, ◌<◌, ◌≤◌, ◌⊎◌, inl, inr, List, length, set, slice_index, slice_index_or, arith, refl, ap, ◌∙◌, get_or-set_other, get_or-set_same}
use Rattle.std.proofs.lemmas.List.{get_or_read}
use Rattle.std.proofs.lemmas.Bool.{cases_eq, cases_lt}
use Rattle.unit_rules.specs.Known.{AgreeAt}
use Rattle.unit_rules.specs.Limits.{longest_line}
use Rattle.unit_rules.proofs.KnownFacts.{AgreeAt-number}
use Rattle.time_brackets.specs.declared.Bracket.{Bracket}
use Rattle.time_brackets.specs.Sums.{HasSums, IsKept, IsMoving, KeptSums, StandsFor, StandsForOlder, StandsPast, block_at, longest_at, no_time, shortest_at}
use Rattle.time_brackets.proofs.SumFacts.{HasSums-bounded, IsBounded, sum_over-same}

-- the blocks from first up to last have the sums over their cells
pub record AreMade (blocks : List Bracket) (e : List ℕ) (first last : ℕ) : Type 0 where
  pub made : (b : ℕ) → first ≤ b → b < last → HasSums e (512 * b) 512 (block_at blocks b)

-- the others are as before
pub record AreAsBefore (old blocks : List Bracket) (first last : ℕ) : Type 0 where
  pub same : (b : ℕ) → (b < first) ⊎ (last ≤ b) → block_at blocks b ≡ block_at old b

pub AreMade-set : (blocks : List Bracket) (e : List ℕ) (first last start count : ℕ) (times : Bracket) → AreMade blocks e first last → last < length blocks
    → start ≡ 512 * last → count ≡ 512 → HasSums e start count times → AreMade (set blocks last times) e first (last + 1)
AreMade-set blocks e first last start count times made short s c sums = record {
  made = λ b h l. elim (cases_eq b last) [
    | inl at ↦ rw (at, get_or-set_same blocks last times no_time short, ← s, ← c) sums
    | inr n ↦ rw (get_or-set_other blocks last b times no_time n) (made.made b h (omega arith))
  ];
}

pub AreAsBefore-set : (old blocks : List Bracket) (first last : ℕ) (times : Bracket) → first ≤ last → AreAsBefore old blocks first last → AreAsBefore old (set blocks last times) first (last + 1)
AreAsBefore-set old blocks first last times ordered before = record {
  same = λ b o. elim o [
    | inl l ↦ get_or-set_other blocks last b times no_time (omega arith) ∙ before.same b (inl l)
    | inr g ↦ get_or-set_other blocks last b times no_time (omega arith) ∙ before.same b (inr (omega arith))
  ];
}

-- a block that meets no point at which two lists differ has the same numbers in both
record AgreesOver (older e : List ℕ) (n b : ℕ) : Type 0 where
  known : 512 * (b + 1) < n
  same : (j : ℕ) → 512 * b ≤ j → j ≤ 512 * (b + 1) → slice_index older j ≡ slice_index e j

AgreesOver-apart : (k : KeptSums) (e : List ℕ) (m from to b : ℕ) → (older : StandsForOlder k e m from to) → 512 * (b + 1) < m → (512 * (b + 1) < from) ⊎ (to < 512 * b)
    → AgreesOver older.older e older.known b
AgreesOver-apart k e m from to b older h apart =
    let agrees : (j : ℕ) → 512 * b ≤ j → j ≤ 512 * (b + 1) → AgreeAt e m older.older older.known j =
    λ j l g. elim apart [ inl low ↦ older.before j (omega arith) | inr high ↦ older.past j (omega arith) ] in
    let at : (j : ℕ) → 512 * b ≤ j → j ≤ 512 * (b + 1) → (j < older.known) × (slice_index older.older j ≡ slice_index e j) =
    λ j l g. AgreeAt-number e older.older m older.known j (agrees j l g) (omega arith) in
    let last = at (512 * (b + 1)) (omega arith) (omega arith) in
    record { known = last.0; same = λ j l g. let p = at j l g in p.1 }

HasSums-same : (d e : List ℕ) (cell count : ℕ) (times : Bracket) → ((j : ℕ) → cell ≤ j → j ≤ cell + count → slice_index d j ≡ slice_index e j) → HasSums d cell count times → HasSums e cell count times
HasSums-same d e cell count times same sums =
    let shortest = sum_over-same (shortest_at d) (shortest_at e) cell count (λ j l m. rw (same j l (omega arith), same (j + 1) (omega arith) (omega arith)) refl) in
    let longest = sum_over-same (longest_at d) (longest_at e) cell count (λ j l m. rw (same j l (omega arith), same (j + 1) (omega arith) (omega arith)) refl) in
    record { lo = sums.lo ∙ shortest; hi = sums.hi ∙ longest }

pub StandsFor-redone : (k : KeptSums) (blocks : List Bracket) (e : List ℕ) (m from to first last : ℕ) → StandsForOlder k e m from to → IsMoving e m → m ≤ k.cells + 1
    → AreMade blocks e first last → AreAsBefore k.blocks blocks first last
    → ((b : ℕ) → 512 * (b + 1) < m → (b < first) ⊎ (last ≤ b) → (512 * (b + 1) < from) ⊎ (to < 512 * b))
    → StandsFor (record { cells = k.cells; blocks = blocks }) e m
StandsFor-redone k blocks e m from to first last older moving on made before apart = record {
  on_line = on;
  moving = moving;
  blocks = λ b h. elim (cases_lt b first) [
    | inl low ↦ as_before b h (inl low)
    | inr from_first ↦ elim (cases_lt b last) [
      | inl within ↦ made.made b from_first within
      | inr high ↦ as_before b h (inr high)
    ]
  ];
}
  where
    as_before : (b : ℕ) → 512 * (b + 1) < m → (b < first) ⊎ (last ≤ b) → HasSums e (512 * b) 512 (block_at blocks b)
    as_before b h o =
        let agrees = AgreesOver-apart k e m from to b older h (apart b h o) in
        rw (before.same b o) (HasSums-same older.older e (512 * b) 512 (block_at k.blocks b) (λ j l g. agrees.same j l (omega arith)) (older.stands.blocks b agrees.known))

-- a moving train moves over a part too
pub IsMoving-fewer : (e : List ℕ) (m n : ℕ) → n ≤ m → IsMoving e m → IsMoving e n
IsMoving-fewer e m n h moving = record {
  listed = let l = moving.listed in omega arith;
  moving = λ i l. moving.moving i (omega arith);
  slow = λ i l. moving.slow i (omega arith);
}

-- an open value with that view is of a line that is not too long, and has each whole block before a known point
pub record IsOpen (cells : ℕ) (items : List Bracket) (k : KeptSums) (i : ℕ) : Type 0 where
  pub short : i ≤ longest_line
  pub listed : (b : ℕ) → b < i / 512 → b < length items

pub IsOpen-past : (cells : ℕ) (items : List Bracket) (k : KeptSums) (e : List ℕ) (i : ℕ) → record { cells = cells; blocks = items } ≡ k → IsKept (record { cells = cells; blocks = items })
    → StandsPast k e i → IsOpen cells items k i
IsOpen-past cells items k e i view kept past =
    let same : cells ≡ k.cells = ap (λ (s : KeptSums). s.cells) view in
    let on_line : i ≤ k.cells = omega (arith, past.past, past.stands.on_line) in
    record { short = omega (arith, kept.short); listed = λ b l. omega (arith, kept.blocks) }

-- a block that was read of it has the sums over its cells
pub HasSums-read : (cells : ℕ) (items : List Bracket) (k : KeptSums) (e : List ℕ) (i b : ℕ) (times : Bracket) → record { cells = cells; blocks = items } ≡ k
    → IsKept (record { cells = cells; blocks = items }) → StandsPast k e i → times ≡ slice_index_or items b times → b < i / 512 → HasSums e (512 * b) 512 times
HasSums-read cells items k e i b times view kept past at before =
    let open_k = IsOpen-past cells items k e i view kept past in
    let read : times ≡ block_at k.blocks b = rw (← view) (get_or_read items b times (open_k.listed b before) at no_time) in
    rw read (past.stands.blocks b (omega (arith, past.past)))

-- the times before a known point are in order, and bounded
pub HasSums-past : (k : KeptSums) (e : List ℕ) (i cell count : ℕ) (times : Bracket) → StandsPast k e i → cell + count ≤ i → HasSums e cell count times → IsBounded count times
HasSums-past k e i cell count times past on sums = HasSums-bounded e past.known cell count times past.stands.moving (omega (arith, past.past)) sums
