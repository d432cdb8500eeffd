-- Sections of a plan: stretches of the line with an allowance.
use Rattle.std.specs.Prelude.{ℕ, ◌<◌, ◌≤◌}
use Rattle.plan_tables.specs.declared.plan.Section.{Section}
use Rattle.plan_tables.specs.Limits.{greatest_amount}

-- a section ends past its beginning, and its amount is in the range of its kind
pub record IsSection (s : Section) : Type 0 where
  pub rises : s.from < s.to
  pub amount : s.amount ≤ greatest_amount s.kind

-- both ends of a section are on a line of that length, in metres
pub record SectionLiesOn (length : ℕ) (s : Section) : Type 0 where
  pub begins : s.from ≤ length
  pub ends : s.to ≤ length

-- the second begins where the first ends, or after it
abbrev pub Follows : Section → Section → Type 0
Follows a b = a.to ≤ b.from
