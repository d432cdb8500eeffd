-- What contracts see of a plan while its records are read.
use Rattle.std.specs.Prelude.{ℕ, ◌≡◌, ◌-◌, ◌<◌, ◌≤◌, Bool, true, nat_lt, List, [], ◌∷◌, ◌++◌, length, Option, Some, None, option_map, slice_get, unwrap_or}
use Rattle.line_tables.specs.Line.{LineView}
use Rattle.plan_tables.specs.declared.plan.Call.{Call}
use Rattle.plan_tables.specs.declared.plan.Section.{Section}
use Rattle.plan_tables.specs.Calls.{IsCallKind}
use Rattle.plan_tables.specs.Limits.{most_calls, most_sections}
use Rattle.plan_tables.specs.Sections.{IsSection, SectionLiesOn}
use Rattle.plan_tables.specs.Plan.{IsPlan, PlanLiesOn, PlanView}

-- the line that a plan is for, and what the records before a record say: the departure, the speeds at both ends, where
-- there is a record of them, and the calls and sections
pub record DraftView : Type 0 where
  pub line : LineView
  pub depart : Option ℕ
  pub enter : Option ℕ
  pub leave : Option ℕ
  pub calls : List Call
  pub sections : List Section

-- the plan that a draft says: what no record says is 0
abbrev pub finished_plan : DraftView → PlanView
finished_plan d = record {
  depart = unwrap_or d.depart 0;
  enter = unwrap_or d.enter 0;
  leave = unwrap_or d.leave 0;
  calls = d.calls;
  sections = d.sections;
}

-- the last call so far
abbrev pub last_call : DraftView → Option Call
last_call d = slice_get d.calls (length d.calls - 1)

-- whether a position is past a call, if there is one
abbrev pub is_past : Option Call → ℕ → Bool
is_past None at = true
is_past (Some c) at = nat_lt c.at at

-- where the last section so far ends, or 0 where there is none
abbrev pub sections_end : DraftView → ℕ
sections_end d = unwrap_or (option_map (λ s. s.to) (slice_get d.sections (length d.sections - 1))) 0

-- a draft with one call more
abbrev pub with_call : DraftView → Call → DraftView
with_call d c = record d { calls = d.calls ++ c ∷ [] }

-- a draft with one section more
abbrev pub with_section : DraftView → Section → DraftView
with_section d s = record d { sections = d.sections ++ s ∷ [] }

-- a call may come next: it is on the line and in range, past the last call so far, and there is room
pub record MayCall (d : DraftView) (c : Call) : Type 0 where
  pub lies : c.at ≤ d.line.length
  pub kind : IsCallKind c.kind
  pub past : is_past (last_call d) c.at ≡ true
  pub room : length d.calls < most_calls

-- a section may come next: it is on the line and in range, begins where the last one ends or later, and there is room
pub record MayFollow (d : DraftView) (s : Section) : Type 0 where
  pub section : IsSection s
  pub lies : SectionLiesOn d.line.length s
  pub follows : sections_end d ≤ s.from
  pub room : length d.sections < most_sections

-- what is said so far is a plan that lies on its line
pub record IsDraft (d : DraftView) : Type 0 where
  pub plan : IsPlan (finished_plan d)
  pub lies : PlanLiesOn d.line.length (finished_plan d)
