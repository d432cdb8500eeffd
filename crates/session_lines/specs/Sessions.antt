-- How a line was answered, and how a session ended.
use Rattle.std.specs.Prelude.{ℕ, ◌≡◌, ◌≤◌, ◌<◌, ◌+◌, ◌⊎◌, List, [], length, take, Result, Ok, Err, IfSome}
use Rattle.std.specs.Io.KnownBytes.{Consumes, IsAtEnd}
use Rattle.run_io.specs.Told.{Rose, Told, Writes, WritesFront}
use Rattle.restrictions.specs.Edits.{lines_of}
use Rattle.unit_rules.specs.Limits.{most_bytes}
use Rattle.session_lines.specs.Dialogues.{Allows, Dialogue, Replies, WantsMemory}
use Rattle.session_lines.specs.Lines.{lines_within, whole_lines}
use Rattle.session_lines.specs.declared.Stop.{Stop}
use Rattle.session_lines.specs.declared.Stop.TheVariants as stop
use Rattle.session_lines.specs.declared.Ending.{Ending}
use Rattle.session_lines.specs.declared.Ending.TheVariants.{Done, TooLong, ReadFault, WriteFault, Memory}

module _ {S A : Type 0} (d : Dialogue S A) where
  -- what was done for a line: its whole reply was written; the output failed, at a front of it; or memory was wanted, before
  -- anything was written
  abbrev pub RespondsBy : S → S → A → Told (List ℕ) → Told (List ℕ) → Result (Unit {0}) Stop → Type 0
  RespondsBy s s' a old new (Ok u) = (s' ≡ d.next s a) × ((t : List ℕ) × d.replies s a t × Writes old new t)
  RespondsBy s s' a old new (Err stop.Write) = Rose old new × ((t : List ℕ) × d.replies s a t × WritesFront old new t)
  RespondsBy s s' a old new (Err stop.Memory) = d.wants a × Writes old new []

  -- a line was answered, and things stand as s' then, or the answer was stopped; in no more steps than it may take
  pub record Responds (s s' : S) (line : List ℕ) (old new : Told (List ℕ)) (before now : ℕ) (result : Result (Unit {0}) Stop) : Type 0 where
    pub later : old.faults ≤ new.faults
    pub cost : ℕ
    pub allowed : d.allows s (d.asked s line) cost
    pub within : now ≤ before + cost
    pub outcome : RespondsBy s s' (d.asked s line) old new result

  -- how a session ended that has taken some bytes of its input, and what it has written:
  -- the replies to all lines, of an input that was read to its end;
  -- those to the lines that end before the limit, of an input that has a byte more;
  -- those to the lines that are whole, where the input failed;
  -- a front of those to the input's lines, where the output failed;
  -- those to the lines before one that may want memory: a whole one of those taken, or the last of the input, which no LF ends
  abbrev pub EndsBy : S → List ℕ → Told (List ℕ) → Told (List ℕ) → Told (List ℕ) → Told (List ℕ) → Ending → Type 0
  EndsBy s taken input input' out out' Done =
      (length taken ≤ most_bytes) × IsAtEnd input'.holds
      × ((t : List ℕ) × Replies d s (lines_of taken) t × Writes out out' t)
  EndsBy s taken input input' out out' TooLong =
      (most_bytes < length taken)
      × ((t : List ℕ) × Replies d s (whole_lines (take most_bytes taken)) t × Writes out out' t)
  EndsBy s taken input input' out out' ReadFault =
      (length taken ≤ most_bytes) × Rose input input'
      × ((t : List ℕ) × Replies d s (whole_lines taken) t × Writes out out' t)
  EndsBy s taken input input' out out' WriteFault =
      Rose out out'
      × IfSome input.holds (λ all. (t : List ℕ) × Replies d s (lines_within all) t × WritesFront out out' t)
  EndsBy s taken input input' out out' Memory =
      (t : List ℕ)
      × (WantsMemory d s (whole_lines taken) t ⊎ (IsAtEnd input'.holds × WantsMemory d s (lines_of taken) t))
      × Writes out out' t

  -- a session was held: some bytes were taken of the input, in no more steps than their lines may take
  pub record IsHeld (s : S) (input input' out out' : Told (List ℕ)) (before now : ℕ) (ending : Ending) : Type 0 where
    pub taken : List ℕ
    pub took : Consumes input.holds input'.holds taken
    pub input_later : input.faults ≤ input'.faults
    pub out_later : out.faults ≤ out'.faults
    pub cost : ℕ
    pub allowed : Allows d s (lines_of taken) cost
    pub within : now ≤ before + cost
    pub ends : EndsBy s taken input input' out out' ending
