-- What holds of arrivals under all plans, by the definitions alone.
use Rattle.std.specs.Prelude.{ℕ, ◌<◌, ◌≤◌, List, slice_index}
use Rattle.plan_tables.specs.Plan.{PlanView}
use Rattle.time_brackets.specs.Sums.{IsMoving}
use Rattle.time_brackets.specs.declared.Bracket.{Bracket}
use Rattle.allowances.specs.Arrivals.{arrival}

-- a bracket is at neither end later than another
pub record IsNoLater (a b : Bracket) : Type 0 where
  pub lo : a.lo ≤ b.lo
  pub hi : a.hi ≤ b.hi

-- where the numbers of e are nowhere less than the first n of a list q of a moving train, a train of e comes to none of these
-- points later, under the same plan
abbrev pub FasterIsNoLater : Type 0
FasterIsNoLater = (plan : PlanView) (q e : List ℕ) (n i : ℕ) → IsMoving q n
    → ((j : ℕ) → j < n → slice_index q j ≤ slice_index e j) → i < n
    → IsNoLater (arrival plan e i) (arrival plan q i)
