-- Rows that are filled in place, one after the other.
use Rattle.std.proofs.Common.{◌≡◌, ◌≢◌, ℕ, ◌+◌, ◌<◌, ◌≤◌, ℤ, pos, List, length, set, arith, get_or-set_other}
use Rattle.std.proofs.lemmas.List.Edits.{fill_by_more}
use Rattle.run_rules.specs.Grids.{row}

pub row-set_same : (f : ℕ → ℤ) (rows : List ℤ) (k : ℕ) (v : ℤ) → k < length rows → ((j : ℕ) → j < k → row rows j ≡ f j) → v ≡ f k
    → (j : ℕ) → j < k + 1 → row (set rows k v) j ≡ f j
row-set_same f rows k v h done e j b = rw e (fill_by_more f rows k (pos 0) h done j b)

pub row-set_later : (rows : List ℤ) (k j : ℕ) (v : ℤ) → k + 1 ≤ j → row (set rows k v) j ≡ row rows j
row-set_later rows k j v h = let ne : j ≢ k = omega arith in get_or-set_other rows k j v (pos 0) ne
