-- Which of the broken rules is the first.
use Rattle.std.specs.Prelude.{◌≡◌, ℕ, ◌<◌, ◌⊎◌, List}
use Rattle.unit_rules.specs.declared.Reach.{Reach}
use Rattle.run_rules.specs.Runs.{StepRule}
use Rattle.cert_check.specs.Rules.{BreaksRule}

-- rule r at point i comes before rule s at point j: the rules come by their points, and at a point by their numbers,
-- but rule 9 comes last; so rule 1, at point 0, comes first
abbrev pub ComesBefore : ℕ → ℕ → ℕ → ℕ → Type 0
ComesBefore i r j s = (r < 9) × ((s ≡ 9) ⊎ (i < j) ⊎ ((i ≡ j) × (r < s)))

-- rule r is broken at point i, and none is that comes before
pub record IsFirstBroken (rule : StepRule) (x c e : List ℕ) (verdict : Reach) (i r : ℕ) : Type 0 where
  pub broken : BreaksRule rule x c e verdict i r
  pub first : (j s : ℕ) → ComesBefore j s i r → BreaksRule rule x c e verdict j s → ⊥

-- by what breaks the rule of each number: no rule is broken
abbrev pub KeepsAll : (ℕ → Type 0) → Type 0
KeepsAll Breaks = (r : ℕ) → Breaks r → ⊥

-- rule r is the least that is broken
pub record IsLeastBroken (Breaks : ℕ → Type 0) (r : ℕ) : Type 0 where
  pub broken : Breaks r
  pub least : (s : ℕ) → s < r → Breaks s → ⊥
