-- Stretches of a line that have one cap.
use Rattle.std.specs.Prelude.{◌≡◌, ℕ, ◌≤◌}
use Rattle.limit_profile.specs.Profile.{Profile, cap}
use Rattle.limit_profile.specs.declared.Level.{Level}

-- each point of the stretch has its cap
unfoldable pub IsLevel : Profile → Level → Type 0
IsLevel p level = (i : ℕ) → level.from ≤ i → i ≤ level.to → cap p i ≡ level.cap
