-- What holds of the times of all trains, by the definitions alone.
use Rattle.std.specs.Prelude.{ℕ, ◌+◌, ◌<◌, ◌≤◌, List, slice_index}
use Rattle.time_brackets.specs.Sums.{IsMoving, longest_at, shortest_at, sum_over}
use Rattle.time_brackets.specs.Times.{IsNotLonger, longest_time, shortest_time}

-- where a speed before or after a metre is greater, neither its shortest nor its longest time is
abbrev pub TimesNeverRise : Type 0
TimesNeverRise = (a b c d : ℕ) → 1 ≤ a + b → a ≤ c → b ≤ d
    → (shortest_time c d ≤ shortest_time a b) × (longest_time c d ≤ longest_time a b)

-- what is not longer than the true time over a metre is not longer than that of a train that is no faster there
abbrev pub SlowerTakesNoLess : Type 0
SlowerTakesNoLess = (n a b c d : ℕ) → 1 ≤ a + b → a ≤ c → b ≤ d → IsNotLonger n c d → IsNotLonger n a b

-- where the numbers of e are nowhere less than those of q, neither are the sums of q over a stretch less than those of e
abbrev pub SumsNeverRise : Type 0
SumsNeverRise = (q e : List ℕ) (n from cells : ℕ) → IsMoving q n
    → ((i : ℕ) → i < n → slice_index q i ≤ slice_index e i) → from + cells < n
    → (sum_over (shortest_at e) from cells ≤ sum_over (shortest_at q) from cells)
    × (sum_over (longest_at e) from cells ≤ sum_over (longest_at q) from cells)
