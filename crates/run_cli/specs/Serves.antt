-- How a form is served.
use Rattle.std.specs.Prelude.{ℕ, ◌≡◌, ◌≤◌, ◌+◌, ◌*◌, ◌⊎◌, List, [], Option, IfSome}
use Rattle.session_lines.specs.Sessions.{IsHeld}
use Rattle.session_lines.specs.declared.Ending.{Ending}
use Rattle.session_lines.specs.declared.Ending.TheVariants as ending
use Rattle.session_replies.specs.Cases.{CaseView}
use Rattle.session_replies.specs.Replies.{talk}
use Rattle.run_io.specs.Fetches.{Files}
use Rattle.run_io.specs.Told.{Rose, Told, Writes, WritesFront}
use Rattle.run_files.specs.Loads.{AsksOnce}
use Rattle.run_files.specs.Statuses.{extent_of, input_number, status_text}
use Rattle.run_files.specs.Statuses.Extent.{whole}
use Rattle.run_files.specs.declared.status.Status.{Status}
use Rattle.run_files.specs.declared.status.Status.TheVariants.{Done, Memory, ReadFault, TooLong, WriteFault}
use Rattle.run_cli.specs.Ends.{EndsAs, EndsShort, EndsWhole, HasCause, IsComplete, Outside, TakesInput, TakesSteps}
use Rattle.run_cli.specs.Meanings.{Meaning}

-- all that the top call says of a run, by what its words mean
pub record Serves (m : Meaning) (old new : Outside) (before now : ℕ) (s : Status) : Type 0 where
  pub ends : EndsAs m old new s
  pub causes : HasCause m old new s
  pub complete : IsComplete m old new s
  pub takes : TakesInput m old new s
  pub steps : TakesSteps m old new before now

-- and of what the shelf was asked
pub record IsServed (m : Meaning) (old new : Outside) (before now asked after : ℕ) (s : Status) : Type 0 where
  pub serves : Serves m old new before now s
  pub asks : AsksOnce (m.reads old.shelf.holds) asked after

-- a status and a text are among those that a form means which reads files alone
pub record IsMeant (m : Meaning) (told : Option Files) (s : Status) (t : List ℕ) : Type 0 where
  pub answers : IfSome told (λ files. m.answers files [] s t)
  pub is_whole : extent_of s ≡ whole
  pub may_end : m.may_end s

-- how the work over tables may end: for want of memory, by a fault of the sink before or in a text, or with a whole text
abbrev pub WorkEnds : Meaning → Option Files → Told (List ℕ) → Told (List ℕ) → Status → Type 0
WorkEnds m told old new s =
    ((s ≡ Memory) × Writes old new [])
    ⊎ ((s ≡ WriteFault) × Rose old new × (Writes old new [] ⊎ IfSome told (λ files. EndsShort (m.answers files []) old new)))
    ⊎ ((extent_of s ≡ whole) × m.may_end s × IfSome told (λ files. EndsWhole (m.answers files []) s old new))

pub record Works (m : Meaning) (told : Option Files) (old new : Told (List ℕ)) (before now : ℕ) (s : Status) : Type 0 where
  pub ends : WorkEnds m told old new s
  pub cost : ℕ
  pub allowed : m.steps told [] cost
  pub steps : now ≤ before + cost

-- the own text of a status was written, or the sink failed at a front of it
abbrev pub Finishes : Status → Told (List ℕ) → Told (List ℕ) → Status → Type 0
Finishes status old new s =
    ((s ≡ status) × Writes old new (status_text status))
    ⊎ ((s ≡ WriteFault) × WritesFront old new (status_text status) × Rose old new)

-- how the end of a session is told: of an input that is too long the text says so; the others have none
abbrev pub Closes : Ending → Told (List ℕ) → Told (List ℕ) → Status → Type 0
Closes ending.Done between out s = (s ≡ Done) × (out ≡ between)
Closes ending.TooLong between out s = Finishes (TooLong input_number) between out s
Closes ending.ReadFault between out s = (s ≡ ReadFault) × (out ≡ between)
Closes ending.WriteFault between out s = (s ≡ WriteFault) × (out ≡ between)
Closes ending.Memory between out s = (s ≡ Memory) × (out ≡ between)

-- a session was opened over a case and held, and then its end was told
pub record IsHeldOver (c : CaseView) (input input' out out' : Told (List ℕ)) (before now : ℕ) (s : Status) : Type 0 where
  pub opened : ℕ
  pub few : opened ≤ before + 35 * (c.line.length + 1)
  pub ending : Ending
  pub between : Told (List ℕ)
  pub held : IsHeld talk c input input' out between opened now ending
  pub closes : Closes ending between out' s

-- or there was no memory to open it
pub record IsUnopened (c : CaseView) (input input' out out' : Told (List ℕ)) (before now : ℕ) (s : Status) : Type 0 where
  pub memory : s ≡ Memory
  pub few : now ≤ before + 35 * (c.line.length + 1)
  pub same_input : input' ≡ input
  pub same_out : out' ≡ out

abbrev pub Holds : CaseView → Told (List ℕ) → Told (List ℕ) → Told (List ℕ) → Told (List ℕ) → ℕ → ℕ → Status → Type 0
Holds c input input' out out' before now s =
    IsUnopened c input input' out out' before now s ⊎ IsHeldOver c input input' out out' before now s
