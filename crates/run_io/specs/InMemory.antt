-- What contracts see of the shelf, the source and the sink in memory.
use Rattle.std.specs.Prelude.{ℕ, ◌≤◌, List, [], ◌∷◌, length, if◌then◌else◌, Option, Some, None, Contains, ◌⊎◌, ◌≡◌, Result, Ok, Err}
use Rattle.run_io.specs.declared.Fetch.{Fetch}
use Rattle.run_io.specs.declared.Fetch.TheVariants.{Failed, Absent, TooLong, Memory}
use Rattle.std.specs.Str.{bytes_eq}
use Rattle.run_io.specs.Fetches.{Files}
use Rattle.run_io.specs.Told.{Told, one_more}

-- a shelf: its files, the numbers of the calls that fail, and how many calls and faults there were
pub record ShelfState : Type 0 where
  pub files : List (List ℕ × List ℕ)
  pub failing : List ℕ
  pub calls : ℕ
  pub faults : ℕ

-- the bytes of the first file of a name
abbrev pub find_file : List (List ℕ × List ℕ) → List ℕ → Option (List ℕ)
find_file [] name = None
find_file (f ∷ files) name = if bytes_eq f.0 name then Some f.1 else find_file files name

-- what such a shelf tells
abbrev pub shelf_told : ShelfState → Told Files
shelf_told s = record { holds = Some (find_file s.files); faults = s.faults }

-- a source: the bytes that are left, and how many it gives at a call
pub record SourceState : Type 0 where
  pub left : List ℕ
  pub most : ℕ
  pub failing : List ℕ
  pub calls : ℕ
  pub faults : ℕ

-- what such a source tells
abbrev pub source_told : SourceState → Told (List ℕ)
source_told s = record { holds = Some s.left; faults = s.faults }

-- a sink: the bytes written, its room, and how many it takes at a call
pub record SinkState : Type 0 where
  pub written : List ℕ
  pub room : ℕ
  pub most : ℕ
  pub failing : List ℕ
  pub calls : ℕ
  pub faults : ℕ

-- what such a sink tells
abbrev pub sink_told : SinkState → Told (List ℕ)
sink_told s = record { holds = Some s.written; faults = s.faults }

-- the next write fails: its number is one of those that fail, or the room is full
abbrev pub WriteFails : SinkState → Type 0
WriteFails s = Contains s.failing (one_more s.calls) ⊎ (s.room ≤ length s.written)

-- a fetch counts itself, and a fault where it failed
abbrev pub ShelfAfter : ShelfState → ShelfState → Result (Unit {0}) Fetch → Type 0
ShelfAfter old new (Ok u) = new ≡ record old { calls = one_more old.calls }
ShelfAfter old new (Err Failed) = new ≡ record old { calls = one_more old.calls; faults = one_more old.faults }
ShelfAfter old new (Err Absent) = new ≡ record old { calls = one_more old.calls }
ShelfAfter old new (Err TooLong) = new ≡ record old { calls = one_more old.calls }
ShelfAfter old new (Err Memory) = new ≡ record old { calls = one_more old.calls }
