-- How the loading of files ends.
use Rattle.std.specs.Prelude.{ℕ, ◌≡◌, ◌≤◌, ◌+◌, ◌⊎◌, List, [], ◌∷◌, length, Option, None, Some, option_map, Result, IfOk, IfErr, IfSome}
use Rattle.std.proofs.Common.{Bor}
use Rattle.line_tables.specs.Line.{LineView}
use Rattle.run_io.specs.Fetches.{Files}
use Rattle.run_io.specs.Told.{Rose, Told}
use Rattle.unit_rules.specs.Limits.{most_bytes}
use Rattle.run_files.specs.Files.{Blames, File, edits_reading, file_read, IsRefusal, refusal}
use Rattle.run_files.specs.declared.status.Status.{Status}
use Rattle.run_files.specs.declared.status.Status.TheVariants.{Memory, ReadFault}

-- the shelf failed, or, where files are told, one of them is the first that is in the way
abbrev pub IsReason : List File → Told Files → Told Files → Status → Type 0
IsReason reads old new s =
    ((s ≡ ReadFault) × Rose old new) ⊎ IfSome old.holds (λ files. refusal files reads ≡ Some s)

-- a file is to blame, and there is a reason
pub record IsRefused (reads : List File) (old new : Told Files) (s : Status) : Type 0 where
  pub blames : Blames old new reads s
  pub reason : IsReason reads old new s

-- why files are not loaded
abbrev pub LoadStops : List File → Told Files → Told Files → Status → Type 0
LoadStops reads old new s = (s ≡ Memory) ⊎ IsRefused reads old new s

-- the files were loaded, and nothing is in the way of any; or they were not, and the status says why
pub record Loads {T : Type 0} (reads : List File) (old new : Told Files) (result : Result T Status) : Type 0 where
  pub same : new.holds ≡ old.holds
  pub later : old.faults ≤ new.faults
  pub loaded : IfOk result (λ t. IfSome old.holds (λ files. refusal files reads ≡ None))
  pub stopped : IfErr result (LoadStops reads old new)

-- a shelf was asked for no more files than these
abbrev pub AsksOnce : List File → ℕ → ℕ → Type 0
AsksOnce reads before now = now ≤ before + length reads

-- not too many bytes, and where files are told those of the file of that name
pub record Fetched (told : Option Files) (name bytes : List ℕ) : Type 0 where
  pub short : length bytes ≤ most_bytes
  pub same : IfSome told (λ files. files name ≡ Some bytes)

-- a file of which nothing but its length is asked
abbrev pub file_named : ℕ → List ℕ → File
file_named number name = record { number = number; name = name; judge = λ files bytes. None }

-- a reader's fault is want of memory, or a refusal of the file of that number
abbrev pub MayRefuse : {T : Type 0} → ℕ → Result T Status → Type 0
MayRefuse number reading = IfErr reading (λ s. (s ≡ Memory) ⊎ IsRefusal number s)

-- the name that may be given
abbrev pub name_in : Option (Bor (List ℕ)) → Option (List ℕ)
name_in name = option_map (λ s. s.now) name

-- the file of edits that is read for a line, if there is one
abbrev pub edits_read : LineView → Option (List ℕ) → List File
edits_read line None = []
edits_read line (Some name) = file_read (edits_reading line) name ∷ []
