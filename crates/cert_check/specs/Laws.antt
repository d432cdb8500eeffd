-- What a certificate shows, by the definitions of runs alone.
use Rattle.std.specs.Prelude.{◌≡◌, ◌↔◌, ℕ, ◌-◌, ◌<◌, ◌≤◌, List, length, slice_index}
use Rattle.unit_rules.specs.declared.Reach.{Reach}
use Rattle.run_rules.specs.Runs.{IsBrakingList, IsMonotone, ReachesAs, StepRule}
use Rattle.run_rules.specs.Walks.{count_of}
use Rattle.cert_check.specs.Rules.{IsCertified}

-- c is the braking list under the caps x, and e the envelope up to its reach, with no number more
pub record IsCertificateOf (rule : StepRule) (x c e : List ℕ) (reach : Reach) : Type 0 where
  pub brakes : IsBrakingList rule x c
  pub reaches : ReachesAs rule x e reach
  pub long : length e ≡ count_of (length x) reach

-- what breaks no rule is a certificate of the caps, and the other way round
abbrev pub CertifiedAreRight : Type 0
CertifiedAreRight = (rule : StepRule) (x c e : List ℕ) (verdict : Reach) (top : ℕ)
    → IsMonotone rule (length x - 1) top → ((i : ℕ) → i < length x → slice_index x i ≤ top) → 0 < length x
    → IsCertified rule x c e verdict ↔ IsCertificateOf rule x c e verdict

-- under the same caps there is only one
abbrev pub CertifiedOnce : Type 0
CertifiedOnce = (rule : StepRule) (x c e d f : List ℕ) (verdict other : Reach) (top : ℕ)
    → IsMonotone rule (length x - 1) top → ((i : ℕ) → i < length x → slice_index x i ≤ top) → 0 < length x
    → IsCertified rule x c e verdict → IsCertified rule x d f other
    → (c ≡ d) × (e ≡ f) × (verdict ≡ other)

-- and there is one, so each case has its certificate
abbrev pub CertifiedExist : Type 0
CertifiedExist = (rule : StepRule) (x : List ℕ) (top : ℕ)
    → IsMonotone rule (length x - 1) top → ((i : ℕ) → i < length x → slice_index x i ≤ top) → 0 < length x
    → (c : List ℕ) × ((e : List ℕ) × ((verdict : Reach) × IsCertified rule x c e verdict))
