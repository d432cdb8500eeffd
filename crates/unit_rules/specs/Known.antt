-- Lists of which the first numbers alone are known.
use Rattle.std.specs.Prelude.{◌≡◌, ℕ, List, slice_index, Option, Some, None, if◌then◌else◌, nat_lt}

-- the number of e at point i, where its first n are known
abbrev pub known_at : List ℕ → ℕ → ℕ → Option ℕ
known_at e n i = if nat_lt i n then Some (slice_index e i) else None

-- two lists have the same number at point i, or none
abbrev pub AgreeAt : List ℕ → ℕ → List ℕ → ℕ → ℕ → Type 0
AgreeAt d n e m i = known_at d n i ≡ known_at e m i
