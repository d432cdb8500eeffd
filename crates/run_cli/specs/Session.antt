-- What the form `session` means: a reply to each line of the input, made of the run of the train under the restrictions that the
-- lines before it have left in force.
use Rattle.std.specs.Prelude.{ℕ, ◌≡◌, ◌≤◌, ◌<◌, ◌+◌, ◌*◌, ◌⊎◌, true, List, [], ◌++◌, length, take, Option, Some, IfSome}
use Rattle.std.specs.Io.KnownBytes.{IsAtEnd}
use Rattle.line_tables.specs.Line.{LineView}
use Rattle.plan_tables.specs.Plan.{PlanView}
use Rattle.restrictions.specs.Edits.{lines_of}
use Rattle.run_io.specs.Fetches.{Files}
use Rattle.run_words.specs.Requests.{CaseNames}
use Rattle.session_lines.specs.Dialogues.{Allows, Replies, WantsMemory}
use Rattle.session_lines.specs.Lines.{whole_lines}
use Rattle.session_replies.specs.Cases.{case_of}
use Rattle.session_replies.specs.Replies.{talk}
use Rattle.stock_tables.specs.Stock.{StockView}
use Rattle.unit_rules.specs.Limits.{most_bytes}
use Rattle.unit_rules.specs.declared.Zone.{Zone}
use Rattle.run_files.specs.Files.{case_files, line_reading, plan_reading, stock_reading, table_in}
use Rattle.run_files.specs.Statuses.{input_number, status_text}
use Rattle.run_files.specs.declared.status.Status.{Status}
use Rattle.run_files.specs.declared.status.Status.TheVariants.{Done, Memory, ReadFault, TooLong}
use Rattle.run_cli.specs.FileForms.{ByCase, CaseAnswer}
use Rattle.run_cli.specs.Meanings.{Is, Meaning}

-- the replies to all lines of an input that isn't too long
pub record RepliesToAll (input : List ℕ) (line : LineView) (stock : StockView) (plan : PlanView) (force : List (List ℕ × Zone)) (s : Status) (t : List ℕ) : Type 0 where
  pub short : length input ≤ most_bytes
  pub replies : Replies talk (case_of line stock plan force) (lines_of input) t
  pub is_done : s ≡ Done

-- the replies to the lines that end before the limit of an input with more bytes, and then that it is too long
pub record RepliesToFront (input : List ℕ) (line : LineView) (stock : StockView) (plan : PlanView) (force : List (List ℕ × Zone)) (s : Status) (t : List ℕ) : Type 0 where
  pub long : most_bytes < length input
  pub said : List ℕ
  pub replies : Replies talk (case_of line stock plan force) (whole_lines (take most_bytes input)) said
  pub is : Is (TooLong input_number) (said ++ status_text (TooLong input_number)) s t

-- what answers over an input
abbrev pub RepliesTo : List ℕ → CaseAnswer
RepliesTo input line stock plan force s t =
    RepliesToAll input line stock plan force s t ⊎ RepliesToFront input line stock plan force s t

-- what stands written where a session is stopped that has taken so much of the input: where the input failed, the replies to
-- the lines that are whole; where memory was wanted, those to the lines before a timetable, which is whole or the input's last
abbrev pub StandsReplied : List ℕ → Option (List ℕ) → CaseAnswer
StandsReplied taken left line stock plan force ReadFault t = Replies talk (case_of line stock plan force) (whole_lines taken) t
StandsReplied taken left line stock plan force Memory t =
    WantsMemory talk (case_of line stock plan force) (whole_lines taken) t
    ⊎ (IsAtEnd left × WantsMemory talk (case_of line stock plan force) (lines_of taken) t)
StandsReplied taken left line stock plan force _ t = ⊥

-- nothing is taken of the input, and nothing written
abbrev pub IsUnbegun : List ℕ → List ℕ → Type 0
IsUnbegun taken t = (taken ≡ []) × (t ≡ [])

-- the statuses at the end of a session
abbrev pub MayBeLong : Status → Type 0
MayBeLong s = (s ≡ Done) ⊎ (s ≡ TooLong input_number)

-- a session over these files is opened in at most 35 steps a point, and then takes those that the lines of what it has taken may
-- take
pub record TakesReplies (names : CaseNames) (files : Files) (taken : List ℕ) (n : ℕ) : Type 0 where
  pub line : LineView
  pub stock : StockView
  pub plan : PlanView
  pub is_line : table_in line_reading (files names.line) ≡ Some line
  pub is_stock : table_in stock_reading (files names.stock) ≡ Some stock
  pub is_plan : table_in (plan_reading line) (files names.plan) ≡ Some plan
  pub cost : ℕ
  pub allowed : Allows talk (case_of line stock plan []) (lines_of taken) cost
  pub within : n ≤ 35 * (line.length + 1) + cost

-- what the form means
abbrev pub session_meaning : CaseNames → Meaning
session_meaning names = record {
  reads = λ told. case_files names;
  reads_input = true;
  answers = λ files input. ByCase names (RepliesTo input) files;
  so_far = λ files taken left s t. IsUnbegun taken t ⊎ ByCase names (StandsReplied taken left) files s t;
  may_end = MayBeLong;
  steps = λ told taken n. IfSome told (λ files. (n ≡ 0) ⊎ TakesReplies names files taken n);
}
