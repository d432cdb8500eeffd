-- How far the lines of an input were answered, while it comes in pieces.
use Rattle.std.specs.Prelude.{ℕ, ◌≡◌, ◌≤◌, ◌+◌, List, [], ◌∷◌, ◌++◌, map, take, Result, Ok, Err}
use Rattle.std.specs.List.{slice_split}
use Rattle.std.specs.Str.Lines.{strip_carriage_return}
use Rattle.run_io.specs.Told.{Rose, Told, Writes, WritesFront}
use Rattle.restrictions.specs.Edits.{is_line_feed, lines_of}
use Rattle.session_lines.specs.Dialogues.{Allows, Dialogue, Replies, WantsMemory, after}
use Rattle.session_lines.specs.Lines.{whole_lines}
use Rattle.session_lines.specs.declared.Stop.{Stop}
use Rattle.session_lines.specs.declared.Stop.TheVariants.{Write, Memory}
use Rattle.session_lines.specs.declared.Ending.{Ending}
use Rattle.session_lines.specs.declared.Ending.TheVariants as ending

-- how many bytes of a line are kept
abbrev pub kept_bytes : ℕ
kept_bytes = 202

-- some parts, of which the first had begun before
abbrev pub begin_with : List ℕ → List (List ℕ) → List (List ℕ)
begin_with begun [] = begun ∷ []
begin_with begun (part ∷ parts) = (begun ++ part) ∷ parts

-- how a session ends where an answer was stopped
abbrev pub ending_of : Stop → Ending
ending_of Write = ending.WriteFault
ending_of Memory = ending.Memory

module _ {S A : Type 0} (d : Dialogue S A) (first : S) (out : Told (List ℕ)) (before : ℕ) where
  -- what was written for lines: all their replies; a front of them, as the output failed; or those to the lines before one that
  -- may want memory
  abbrev pub AnswersBy : List (List ℕ) → Told (List ℕ) → Result (Unit {0}) Stop → Type 0
  AnswersBy lines out' (Ok u) = (t : List ℕ) × Replies d first lines t × Writes out out' t
  AnswersBy lines out' (Err Write) = Rose out out' × ((t : List ℕ) × Replies d first lines t × WritesFront out out' t)
  AnswersBy lines out' (Err Memory) = (t : List ℕ) × WantsMemory d first lines t × Writes out out' t

  -- lines were answered, or their answer was stopped; in no more steps than they may take
  pub record Answers (lines : List (List ℕ)) (out' : Told (List ℕ)) (now : ℕ) (result : Result (Unit {0}) Stop) : Type 0 where
    pub later : out.faults ≤ out'.faults
    pub cost : ℕ
    pub allowed : Allows d first lines cost
    pub within : now ≤ before + cost
    pub outcome : AnswersBy lines out' result

  -- of some bytes all but the rest were fed: the lines that are done have their replies, and of the line that has begun as
  -- much is kept as is of matter
  pub record IsFed (bytes rest : List ℕ) (s : S) (kept : List ℕ) (out' : Told (List ℕ)) (now : ℕ) : Type 0 where
    pub done : List (List ℕ)
    pub begun : List ℕ
    pub parts : slice_split is_line_feed bytes ≡ done ++ begin_with begun (slice_split is_line_feed rest)
    pub stand : s ≡ after d first (map strip_carriage_return done)
    pub keeps : kept ≡ take kept_bytes begun
    pub answers : Answers (map strip_carriage_return done) out' now (Ok tt)

  -- what came of feeding all of some bytes
  abbrev pub FedBy : List ℕ → S → List ℕ → Told (List ℕ) → ℕ → Result (Unit {0}) Stop → Type 0
  FedBy bytes s kept out' now (Ok u) = IsFed bytes [] s kept out' now
  FedBy bytes s kept out' now (Err stop) = Answers (whole_lines bytes) out' now (Err stop)

module _ {S A : Type 0} (d : Dialogue S A) where
  -- a piece was fed, whatever was before it
  pub record Feeds (law : S → Type 0) (s s' : S) (kept kept' piece : List ℕ) (out out' : Told (List ℕ)) (now now' : ℕ) (result : Result (Unit {0}) Stop) : Type 0 where
    pub feeds : (first : S) (old : Told (List ℕ)) (before : ℕ) (bytes : List ℕ) → law first → IsFed d first old before bytes piece s kept out now
        → FedBy d first old before bytes s' kept' out' now' result

  -- the line that no LF ends was answered, if there is one, whatever was before it
  pub record Finishes (s : S) (kept : List ℕ) (out out' : Told (List ℕ)) (now now' : ℕ) (result : Result (Unit {0}) Stop) : Type 0 where
    pub finishes : (first : S) (old : Told (List ℕ)) (before : ℕ) (bytes : List ℕ) → IsFed d first old before bytes [] s kept out now
        → Answers d first old before (lines_of bytes) out' now' result
