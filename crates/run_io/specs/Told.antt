-- What a shelf, a source or a sink tells at a time, and how what it tells changes: its count of faults never falls, and
-- a call that answers a fault has raised it.
use Rattle.std.specs.Prelude.{ℕ, ◌+◌, ◌-◌, ◌^◌, ◌≤◌, ◌<◌, ◌≡◌, List, length, take, min, Option, OnErr, Result, Ok, Err}
use Rattle.std.specs.Io.KnownBytes.{Appends}

-- what it holds, where it tells that, and how often it has failed
pub record Told (A : Type 0) : Type 0 where
  pub holds : Option A
  pub faults : ℕ

-- a count with one more, up to the end of its type
abbrev pub one_more : ℕ → ℕ
one_more count = min (count + 1) (2 ^ 64 - 1)

-- a count that has risen, or stands at the end of its type
abbrev pub Rose : {A : Type 0} → Told A → Told A → Type 0
Rose old new = one_more old.faults ≤ new.faults

-- a count that did not rise, and does not stand at the end of its type
pub record IsQuiet {A : Type 0} (old new : Told A) : Type 0 where
  pub room : old.faults < 2 ^ 64 - 1
  pub same : new.faults ≡ old.faults

-- the count has not fallen, and has risen where the call failed
pub record HasCause {A T E : Type 0} (old new : Told A) (result : Result T E) : Type 0 where
  pub later : old.faults ≤ new.faults
  pub failed : OnErr result (Rose old new)

-- the count has one more where the call failed, and stands where it did not
abbrev pub Counts : {A T E : Type 0} → Told A → Told A → Result T E → Type 0
Counts old new (Ok x) = new.faults ≡ old.faults
Counts old new (Err e) = new.faults ≡ one_more old.faults

-- the text was written
abbrev pub Writes : Told (List ℕ) → Told (List ℕ) → List ℕ → Type 0
Writes old new text = Appends old.holds new.holds text

-- a front of the text was written
abbrev pub WritesFront : Told (List ℕ) → Told (List ℕ) → List ℕ → Type 0
WritesFront old new text = (n : ℕ) × (n ≤ length text) × Writes old new (take n text)
