-- What the records of a plan file say, record by record.
use Rattle.std.proofs.Common.{◌≡◌, ◌++◌, ℕ, List, [], ◌∷◌, Option, None, Result, Ok, Err, refl, inl, inr}
use Rattle.unit_rules.specs.Memory.{Gives}
use Rattle.record_rules.specs.Faults.{ReadsAll}
use Rattle.record_rules.specs.Records.{Record, file_records}
use Rattle.record_rules.specs.declared.RecordFault.{RecordFault}
use Rattle.record_rules.specs.declared.RecordFault.TheVariants as of_records
use Rattle.record_rules.proofs.SaidFacts.{filter_map-push, first-push}
use Rattle.line_tables.specs.Line.{LineView}
use Rattle.plan_tables.specs.declared.PlanFault.{PlanFault}
use Rattle.plan_tables.specs.declared.PlanFault.TheVariants.{Memory}
use Rattle.plan_tables.specs.declared.plan.Call.{Call}
use Rattle.plan_tables.specs.declared.plan.Section.{Section}
use Rattle.plan_tables.specs.Draft.{DraftView, finished_plan}
use Rattle.plan_tables.specs.Faults.{plan_fault}
use Rattle.plan_tables.specs.PlanFile.{call_of, depart_of, draft_of, enter_of, file_fault, leave_of, read_as_plan, section_of, with_record}
use Rattle.plan_tables.specs.Plan.{PlanView}

same_draft : (line : LineView) (a a' b b' c c' : Option ℕ) (d d' : List Call) (e e' : List Section) → a ≡ a' → b ≡ b' → c ≡ c' → d ≡ d' → e ≡ e'
    → ◌≡◌ {A = DraftView} (record { line = line; depart = a; enter = b; leave = c; calls = d; sections = e }) (record { line = line; depart = a'; enter = b'; leave = c'; calls = d'; sections = e' })
same_draft line a a' b b' c c' d d' e e' p q r s t = rw (p, q, r, s, t) refl

-- what records say with one record more
pub draft_of-push : (line : LineView) (rows : List Record) (r : Record) → draft_of line (rows ++ r ∷ []) ≡ with_record (draft_of line rows) r
draft_of-push line rows r =
    same_draft line _ _ _ _ _ _ _ _ _ _ (first-push depart_of rows r) (first-push enter_of rows r) (first-push leave_of rows r) (filter_map-push (call_of line) rows r) (filter_map-push (section_of line) rows r)

-- a file whose records were read to the end reads as the plan that they say
pub Gives-plan : (line : LineView) (bytes : List ℕ) (d : DraftView) → (file_fault line bytes ≡ None) × (d ≡ draft_of line (file_records bytes))
    → Gives (Err Memory) (read_as_plan line bytes) (Ok (finished_plan d))
Gives-plan line bytes d h = inr (rw (h.0, h.1) refl)

-- a file is refused by the fault of its records, which were read into a draft for that line
pub Gives-fault : (line : LineView) (bytes : List ℕ) (begun : DraftView) (said : Type 0) (fault : RecordFault) (result : Result PlanView PlanFault) → begun ≡ draft_of line []
    → result ≡ Err (plan_fault fault) → ReadsAll (file_fault begun.line bytes) said (Err fault) → Gives (Err Memory) (read_as_plan line bytes) result
Gives-fault line bytes begun said (of_records.Broken place rule) result b e h = let f = rw b at h in inr (rw (e, f) refl)
Gives-fault line bytes begun said of_records.Memory result b e h = inl e
