-- The summary of a session.
use Rattle.std.specs.Prelude.{ℕ, ◌≡◌, ◌≤◌, ◌+◌, List, [], ◌∷◌, ◌++◌, length, codes, Option, Some, None}
use Rattle.std.specs.Fmt.{decimal}
use Rattle.certificate.specs.Texts.{CertView}
use Rattle.session_lines.specs.Dialogues.{Allows, after, after_line}
use Rattle.time_brackets.specs.Sums.{block_cells}
use Rattle.time_brackets.specs.declared.Bracket.{Bracket}
use Rattle.unit_rules.specs.declared.Reach.{Reach}
use Rattle.unit_rules.specs.declared.Reach.TheVariants.{Stalled, Whole}
use Rattle.session_replies.specs.Asked.{asked}
use Rattle.session_replies.specs.Cases.{CaseView}
use Rattle.session_replies.specs.Replies.{Arrives, answer_to, talk}
use Rattle.session_replies.specs.Runs.{IsRunOf}
use Rattle.session_replies.specs.declared.answers.Answer.{Answer}
use Rattle.session_replies.specs.declared.answers.Answer.TheVariants.{Made, Time}
use Rattle.session_replies.specs.declared.answers.Change.TheVariants.{Put, Take}
use Rattle.session_replies.specs.declared.summary.Summary.{Summary}
use Rattle.session_replies.specs.declared.summary.Tally.{Tally}

abbrev pub no_tally : Tally
no_tally = record { puts = 0; takes = 0; times = 0; stalls = 0 }

-- all lines that were counted
abbrev pub all_in : Tally → ℕ
all_in t = t.puts + t.takes + t.times

-- one for a stall
abbrev pub stall : Reach → ℕ
stall Whole = 0
stall (Stalled k) = 1

-- a tally with a line that has come to an answer
abbrev pub with_answer : Answer → Tally → Tally
with_answer (Made Put reach) t = record t { puts = t.puts + 1; stalls = t.stalls + stall reach }
with_answer (Made Take reach) t = record t { takes = t.takes + 1; stalls = t.stalls + stall reach }
with_answer (Time arrival) t = record t { times = t.times + 1 }
with_answer _ t = t

-- what lines make of a tally, one after another, each by the run of the case after it
abbrev pub Tallies : CaseView → List (List ℕ) → Tally → Tally → Type 0
Tallies c [] t u = u ≡ t
Tallies c (line ∷ lines) t u =
    (run : CertView) × IsRunOf (after_line talk c line) run
    × Tallies (after_line talk c line) lines (with_answer (answer_to (after_line talk c line) run (asked c line)) t) u

-- a session's summary: the points of its line, its lines, those of them that were accepted, and when the train comes to the last
-- point after them all
pub record IsSummary (c : CaseView) (lines : List (List ℕ)) (s : Summary) : Type 0 where
  pub points : s.points ≡ c.line.length + 1
  pub commands : s.commands ≡ length lines
  pub tally : Tallies c lines no_tally s.tally
  pub last : Arrives (after talk c lines) c.line.length s.last

-- a session was summed up, in no more steps than its lines may take and one more `time`
pub record SumsUp (c : CaseView) (lines : List (List ℕ)) (s : Summary) (before now : ℕ) : Type 0 where
  pub summary : IsSummary c lines s
  pub cost : ℕ
  pub allowed : Allows talk c lines cost
  pub within : now ≤ before + cost + block_cells

-- a line of a word and a number
abbrev pub count_line : List ℕ → ℕ → List ℕ
count_line word n = word ++ decimal n ++ codes "\n"

-- the line of the last arrival
abbrev pub last_line : Option Bracket → List ℕ
last_line (Some bracket) = codes "last " ++ decimal bracket.lo ++ codes " " ++ decimal bracket.hi ++ codes "\n"
last_line None = codes "last none\n"

-- the text of a summary
abbrev pub summary_text : Summary → List ℕ
summary_text s =
    count_line (codes "points ") s.points ++ count_line (codes "commands ") s.commands
    ++ count_line (codes "puts ") s.tally.puts ++ count_line (codes "takes ") s.tally.takes
    ++ count_line (codes "times ") s.tally.times ++ count_line (codes "stalls ") s.tally.stalls
    ++ last_line s.last
