-- Want of memory, the one answer that no clause ties to a cause.
use Rattle.std.specs.Prelude.{◌≡◌, ◌⊎◌}

-- a call gives what is meant, or the answer of one that wants memory
abbrev pub Gives : {T : Type 0} → T → T → T → Type 0
Gives wanting meant result = (result ≡ wanting) ⊎ (result ≡ meant)
