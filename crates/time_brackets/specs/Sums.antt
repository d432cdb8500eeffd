-- Sums of the times of cells, and what is kept of them.
use Rattle.std.specs.Prelude.{◌≡◌, ℕ, zero, suc, ◌+◌, ◌*◌, ◌/◌, ◌<◌, ◌≤◌, List, length, slice_index, slice_index_or}
use Rattle.unit_rules.specs.Known.{AgreeAt}
use Rattle.unit_rules.specs.Limits.{greatest_squared_speed, longest_line}
use Rattle.time_brackets.specs.Times.{longest_time, shortest_time}
use Rattle.time_brackets.specs.declared.Bracket.{Bracket}

-- the shortest and the longest time over a cell, for a list of squared speeds by point
abbrev pub shortest_at : List ℕ → ℕ → ℕ
shortest_at e cell = shortest_time (slice_index e cell) (slice_index e (cell + 1))

abbrev pub longest_at : List ℕ → ℕ → ℕ
longest_at e cell = longest_time (slice_index e cell) (slice_index e (cell + 1))

-- the sum over so many cells from a cell on
unfoldable pub sum_over : (ℕ → ℕ) → ℕ → ℕ → ℕ
sum_over time cell zero = 0
sum_over time cell (suc count) = sum_over time cell count + time (cell + count)

-- a bracket has the sums of the shortest and of the longest times over so many cells from a cell on
pub record HasSums (e : List ℕ) (cell count : ℕ) (times : Bracket) : Type 0 where
  pub lo : times.lo ≡ sum_over (shortest_at e) cell count
  pub hi : times.hi ≡ sum_over (longest_at e) cell count

-- the first n numbers of e are squared speeds of a train that stands at no two neighbouring points
pub record IsMoving (e : List ℕ) (n : ℕ) : Type 0 where
  pub listed : n ≤ length e
  pub moving : (i : ℕ) → i + 1 < n → 1 ≤ slice_index e i + slice_index e (i + 1)
  pub slow : (i : ℕ) → i < n → slice_index e i ≤ greatest_squared_speed

-- so many cells are a block
abbrev pub block_cells : ℕ
block_cells = 512

-- how many cells a line has, and a bracket for each whole block of them
pub record KeptSums : Type 0 where
  pub cells : ℕ
  pub blocks : List Bracket

pub record IsKept (k : KeptSums) : Type 0 where
  pub short : k.cells ≤ longest_line
  pub blocks : length k.blocks ≡ k.cells / block_cells

-- the bracket of a block
abbrev pub no_time : Bracket
no_time = record { lo = 0; hi = 0 }

abbrev pub block_at : List Bracket → ℕ → Bracket
block_at blocks block = slice_index_or blocks block no_time

-- what is kept stands for the first n numbers of e: the bracket of each block whose points are all among these has the sums
-- over its cells
pub record StandsFor (k : KeptSums) (e : List ℕ) (n : ℕ) : Type 0 where
  pub on_line : n ≤ k.cells + 1
  pub moving : IsMoving e n
  pub blocks : (block : ℕ) → block_cells * (block + 1) < n → HasSums e (block_cells * block) block_cells (block_at k.blocks block)

-- what is kept stands for the known numbers of an older list, with which the first n of e agree outside points from..=to
pub record StandsForOlder (k : KeptSums) (e : List ℕ) (n from to : ℕ) : Type 0 where
  pub older : List ℕ
  pub known : ℕ
  pub stands : StandsFor k older known
  pub before : (i : ℕ) → i < from → AgreeAt e n older known i
  pub past : (i : ℕ) → to < i → AgreeAt e n older known i

-- what is kept stands for so many numbers of e that the one at point i is among them
pub record StandsPast (k : KeptSums) (e : List ℕ) (i : ℕ) : Type 0 where
  pub known : ℕ
  pub past : i < known
  pub stands : StandsFor k e known
