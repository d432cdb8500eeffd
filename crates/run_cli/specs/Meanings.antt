-- What a form means, and what answers it where no device fails and memory is found.
use Rattle.std.specs.Prelude.{ℕ, ◌≡◌, Bool, false, List, [], Option, Some, None}
use Rattle.run_io.specs.Fetches.{Files}
use Rattle.run_files.specs.Files.{File, refusal}
use Rattle.run_files.specs.Statuses.{extent_of, status_text}
use Rattle.run_files.specs.Statuses.Extent.{stopped}
use Rattle.run_files.specs.declared.status.Status.{Status}

-- which statuses with which texts answer
abbrev pub Answer : Type 1
Answer = Status → List ℕ → Type 0

-- this status with this text, and no other
pub record Is (status : Status) (text : List ℕ) (s : Status) (t : List ℕ) : Type 0 where
  pub status_is : s ≡ status
  pub text_is : t ≡ text

-- what a form means: all that the theorem on the top call knows of it
pub record Meaning : Type 1 where
  -- the files that are read, in this order; which they are may hang on what files hold
  pub reads : Option Files → List File
  -- whether the input is read
  pub reads_input : Bool
  -- what answers over files none of which is in the way, and over an input
  pub answers : Files → List ℕ → Answer
  -- what stands written where a status stops the run after so much of the input, by what is left of it, where that is told
  pub so_far : Files → List ℕ → Option (List ℕ) → Answer
  -- the statuses that say how the work ended
  pub may_end : Status → Type 0
  -- how many steps are allowed over the files, where they are told, and over so much of the input
  pub steps : Option Files → List ℕ → ℕ → Type 0

-- what is in the way answers with its own text; else the form does
abbrev pub AnswersBy : Option Status → Answer → Status → List ℕ → Type 0
AnswersBy (Some fault) next s t = Is fault (status_text fault) s t
AnswersBy None next s t = next s t

-- what answers over some files and an input
abbrev pub Answers : Meaning → Files → List ℕ → Answer
Answers m files input s t = AnswersBy (refusal files (m.reads (Some files))) (m.answers files input) s t

-- two answers are one: their status, and their text
pub record IsOneAnswer (s r : Status) (t u : List ℕ) : Type 0 where
  pub one_status : s ≡ r
  pub one_text : t ≡ u

-- there is one such answer at most
abbrev pub IsOnce : Answer → Type 0
IsOnce answer = (s r : Status) (t u : List ℕ) → answer s t → answer r u → IsOneAnswer s r t u

-- a form has one answer at most over any files and any input
abbrev pub AnswersOnce : Meaning → Type 0
AnswersOnce m = (files : Files) (input : List ℕ) → IsOnce (Answers m files input)

-- a form has written nothing where it is stopped before it has taken any of the input, and may do without
-- a step
pub record IsSilent (m : Meaning) : Type 0 where
  pub silent : (files : Files) (left : Option (List ℕ)) (s : Status) → extent_of s ≡ stopped → m.so_far files [] left s []
  pub idle : (told : Option Files) → m.steps told [] 0

-- such a form that doesn't read the input at all
pub record IsFileForm (m : Meaning) : Type 0 where
  pub no_input : m.reads_input ≡ false
  pub quiet : IsSilent m
