-- What the form `gen` means: the summary of a session over a made-up case.
use Rattle.std.specs.Prelude.{ℕ, ◌≡◌, ◌≤◌, ◌+◌, ◌*◌, ◌⊎◌, List, [], Option, Some}
use Rattle.made_cases.specs.Made.{MadeView, made_case}
use Rattle.restrictions.specs.Edits.{lines_of}
use Rattle.run_files.specs.CaseTexts.{IsCaseOf, fault_of_texts}
use Rattle.run_files.specs.declared.status.Status.{Status}
use Rattle.run_files.specs.declared.status.Status.TheVariants.{Done, Memory, WriteFault}
use Rattle.run_io.specs.Told.{Rose, Told, Writes, WritesFront}
use Rattle.session_lines.specs.Dialogues.{Allows}
use Rattle.session_replies.specs.Cases.{CaseView}
use Rattle.session_replies.specs.Replies.{talk}
use Rattle.session_replies.specs.Summaries.{IsSummary, summary_text}
use Rattle.session_replies.specs.declared.summary.Summary.{Summary}
use Rattle.time_brackets.specs.Sums.{block_cells}
use Rattle.run_cli.specs.FileForms.{file_form}
use Rattle.run_cli.specs.Meanings.{Answer, AnswersBy, Is, Meaning}

-- a case is what the files of a made-up one read as
abbrev pub IsCaseMade : MadeView → CaseView → Type 0
IsCaseMade made c = IsCaseOf made.line made.stock made.plan c.line c.stock c.plan × (c.force ≡ [])

-- the summary of the session over that case
pub record SumsMade (made : MadeView) (s : Status) (t : List ℕ) : Type 0 where
  pub case : CaseView
  pub is_case : IsCaseMade made case
  pub summary : Summary
  pub is_summary : IsSummary case (lines_of made.commands) summary
  pub is : Is Done (summary_text summary) s t

-- what is in the way of the files, in the order in which they are read
abbrev pub fault_of_made : MadeView → Option Status
fault_of_made made = fault_of_texts made.line made.stock made.plan

-- what answers over a made-up case
abbrev pub AnswersMade : MadeView → Answer
AnswersMade made = AnswersBy (fault_of_made made) (SumsMade made)

-- the statuses at the end
abbrev pub MayEndMade : MadeView → Status → Type 0
MayEndMade made s = (s ≡ Done) ⊎ (fault_of_made made ≡ Some s)

-- the session is opened in at most 35 steps a point, and then takes none, or those that its lines may take and one `time` more
pub record TakesSummary (made : MadeView) (n : ℕ) : Type 0 where
  pub case : CaseView
  pub is_case : IsCaseMade made case
  pub cost : ℕ
  pub allowed : (cost ≡ 0) ⊎ Allows talk case (lines_of made.commands) cost
  pub within : n ≤ 35 * (case.line.length + 1) + cost + block_cells

abbrev pub StepsMade : MadeView → ℕ → Type 0
StepsMade made n = (n ≡ 0) ⊎ TakesSummary made n

-- what the form means over the made-up case that it is of
abbrev pub made_meaning : MadeView → Meaning
made_meaning made = file_form [] (λ files. AnswersMade made) (MayEndMade made) (λ told. StepsMade made)

-- what the form means
abbrev pub gen_meaning : ℕ → Meaning
gen_meaning number = made_meaning (made_case number)

-- how a session over a case is summed up: memory is wanted, or its summary is written, or a front of that as the output failed
abbrev pub SumEnds : CaseView → List (List ℕ) → Told (List ℕ) → Told (List ℕ) → Status → Type 0
SumEnds c lines old new s =
    ((s ≡ Memory) × Writes old new [])
    ⊎ ((summary : Summary) × IsSummary c lines summary
    × (((s ≡ Done) × Writes old new (summary_text summary)) ⊎ ((s ≡ WriteFault) × Rose old new × WritesFront old new (summary_text summary))))

pub record Sums (c : CaseView) (lines : List (List ℕ)) (old new : Told (List ℕ)) (before now : ℕ) (s : Status) : Type 0 where
  pub ends : SumEnds c lines old new s
  pub cost : ℕ
  pub allowed : (cost ≡ 0) ⊎ Allows talk c lines cost
  pub within : now ≤ before + 35 * (c.line.length + 1) + cost + block_cells
