-- How a run ends: what it wrote, the cause of its status, what it took of the input, and its steps.
use Rattle.std.specs.Prelude.{ℕ, ◌≡◌, ◌≤◌, ◌+◌, ◌⊎◌, Bool, true, false, IsTrue, List, [], Option, Some, IfSome}
use Rattle.std.specs.Io.KnownBytes.{Consumes, IsAtEnd}
use Rattle.run_io.specs.Fetches.{Files}
use Rattle.run_io.specs.Told.{IsQuiet, Rose, Told, Writes, WritesFront}
use Rattle.run_files.specs.Files.{Blames, refusal}
use Rattle.run_files.specs.Statuses.{Extent, extent_of}
use Rattle.run_files.specs.Statuses.Extent.{whole, stopped, cut}
use Rattle.run_files.specs.declared.status.Status.{Status}
use Rattle.run_files.specs.declared.status.Status.TheVariants.{Done, Memory}
use Rattle.run_cli.specs.Meanings.{Answer, Answers, Meaning}

-- what the shelf, the input and the output of a run tell at a time
pub record Outside : Type 0 where
  pub shelf : Told Files
  pub input : Told (List ℕ)
  pub out : Told (List ℕ)

abbrev pub outside : Told Files → Told (List ℕ) → Told (List ℕ) → Outside
outside shelf input out = record { shelf = shelf; input = input; out = out }

-- a text that answers was written whole, under its status
pub record EndsWhole (answers : Answer) (s : Status) (old new : Told (List ℕ)) : Type 0 where
  pub text : List ℕ
  pub answer : answers s text
  pub written : Writes old new text

-- a front of a text that answers was written
pub record EndsShort (answers : Answer) (old new : Told (List ℕ)) : Type 0 where
  pub status : Status
  pub text : List ℕ
  pub answer : answers status text
  pub written : WritesFront old new text

-- the input failed, which the form reads
abbrev pub InputFailed : Meaning → Outside → Outside → Type 0
InputFailed m old new = IsTrue m.reads_input × Rose old.input new.input

-- what a form has written by then stands: memory was wanted, the shelf or the input failed, or a file that
-- is not there was the first in the way
pub record EndsStopped (m : Meaning) (files : Files) (old new : Outside) (s : Status) : Type 0 where
  pub reason :
      (s ≡ Memory) ⊎ Rose old.shelf new.shelf ⊎ InputFailed m old new ⊎ (refusal files (m.reads (Some files)) ≡ Some s)
  pub taken : List ℕ
  pub took : Consumes old.input.holds new.input.holds taken
  pub text : List ℕ
  pub stands : m.so_far files taken new.input.holds s text
  pub written : Writes old.out new.out text

-- what was written, by how much of its text a status says there is
abbrev pub EndsBy : Extent → Meaning → Files → List ℕ → Outside → Outside → Status → Type 0
EndsBy whole m files input old new s = EndsWhole (Answers m files input) s old.out new.out
EndsBy stopped m files input old new s = EndsStopped m files old new s
EndsBy cut m files input old new s =
    Writes old.out new.out [] ⊎ EndsShort (Answers m files input) old.out new.out

-- the input that a form reads, where it is told
abbrev pub input_of : Bool → Option (List ℕ) → Option (List ℕ)
input_of true told = told
input_of false told = Some []

-- where the files and the input are told
abbrev pub WhereTold : Meaning → Outside → (Files → List ℕ → Type 0) → Type 0
WhereTold m old P =
    IfSome old.shelf.holds (λ files. IfSome (input_of m.reads_input old.input.holds) (λ input. P files input))

-- what was written, where files and input are told
abbrev pub EndsAs : Meaning → Outside → Outside → Status → Type 0
EndsAs m old new s = WhereTold m old (λ files input. EndsBy (extent_of s) m files input old new s)

-- the cause of a status, by the same: a file that is to blame, an end of the form's own, a fault of the
-- input or of the output; none of want of memory
abbrev pub CausedBy : Extent → Meaning → Outside → Outside → Status → Type 0
CausedBy whole m old new s = Blames old.shelf new.shelf (m.reads old.shelf.holds) s ⊎ m.may_end s
CausedBy stopped m old new s =
    (s ≡ Memory) ⊎ Blames old.shelf new.shelf (m.reads old.shelf.holds) s ⊎ InputFailed m old new
CausedBy cut m old new s = Rose old.out new.out

abbrev pub HasCause : Meaning → Outside → Outside → Status → Type 0
HasCause m old new s = CausedBy (extent_of s) m old new s

-- no count rose of what a form uses
pub record AllQuiet (m : Meaning) (old new : Outside) : Type 0 where
  pub shelf : IsQuiet old.shelf new.shelf
  pub input : IsTrue m.reads_input → IsQuiet old.input new.input
  pub out : IsQuiet old.out new.out

-- where no count rose, a run ends with its whole text, or for want of memory
abbrev pub IsComplete : Meaning → Outside → Outside → Status → Type 0
IsComplete m old new s =
    AllQuiet m old new
    → WhereTold m old (λ files input. (s ≡ Memory) ⊎ EndsWhole (Answers m files input) s old.out new.out)

-- what was taken of the input: nothing where the form reads none; all where it is done
abbrev pub TakesBy : Bool → Told (List ℕ) → Told (List ℕ) → Status → Type 0
TakesBy false old new s = new ≡ old
TakesBy true old new s =
    (old.faults ≤ new.faults) × ((taken : List ℕ) × Consumes old.holds new.holds taken)
    × (s ≡ Done → IsAtEnd new.holds)

abbrev pub TakesInput : Meaning → Outside → Outside → Status → Type 0
TakesInput m old new s = TakesBy m.reads_input old.input new.input s

-- the steps that were taken are allowed over what was taken of the input
pub record TakesSteps (m : Meaning) (old new : Outside) (before now : ℕ) : Type 0 where
  pub taken : List ℕ
  pub took : Consumes old.input.holds new.input.holds taken
  pub cost : ℕ
  pub allowed : m.steps old.shelf.holds taken cost
  pub within : now ≤ before + cost
