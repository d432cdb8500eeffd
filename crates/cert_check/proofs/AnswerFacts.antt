-- What the checker answers, of a certificate and of any other.
use Rattle.std.proofs.Common.{◌≡◌, ◌∙◌, ℕ, List, Result, Ok, Err, ap, ap₂, refl}
use Rattle.std.specs.Prelude.{IsOk, ◌↔◌}
use Rattle.unit_rules.specs.declared.Reach.{Reach}
use Rattle.certificate.specs.Texts.{CertView}
use Rattle.run_rules.specs.Runs.{StepRule}
use Rattle.cert_check.specs.declared.CertFault.{CertFault}
use Rattle.cert_check.specs.Faults.{IsFirstBroken}
use Rattle.cert_check.specs.Laws.{IsCertificateOf}
use Rattle.cert_check.specs.Rules.{IsCertified}
use Rattle.cert_check.proofs.FaultFacts.{IsFirstBroken-once, IsFirstBroken-uncertified}
use Rattle.cert_check.proofs.OnceFacts.{certified_right, right_certified}
use Rattle.cert_check.proofs.RuleFacts.{IsCapped}

-- a certificate is accepted, and for any other the first broken rule is told
pub record IsAnswer (rule : StepRule) (x : List ℕ) (cert : CertView) (result : Result Reach CertFault) : Type 0 where
  pub valid : IsOk result ↔ IsCertified rule x cert.c cert.e cert.verdict
  pub right : IsOk result ↔ IsCertificateOf rule x cert.c cert.e cert.verdict
  pub broken : (fault : CertFault) → (result ≡ Err fault) ↔ IsFirstBroken rule x cert.c cert.e cert.verdict fault.point fault.rule

pub IsAnswer-fault : (rule : StepRule) (x : List ℕ) (cert : CertView) (top : ℕ) (fault : CertFault) → IsCapped rule x top
    → IsFirstBroken rule x cert.c cert.e cert.verdict fault.point fault.rule → IsAnswer rule x cert (Err fault)
IsAnswer-fault rule x cert top fault caps first =
    let refuses : IsCertified rule x cert.c cert.e cert.verdict → ⊥ = IsFirstBroken-uncertified rule x cert.c cert.e cert.verdict fault.point fault.rule first in
    record {
      valid = (λ accepted. cc accepted, λ certified. absurd (refuses certified));
      right = (λ accepted. cc accepted, λ right. absurd (refuses (right_certified rule x cert.c cert.e cert.verdict top caps right)));
      broken = λ other. (
        λ same. let is : fault ≡ other = cc same in rw is at first,
        λ told.
            let same = IsFirstBroken-once rule x cert.c cert.e cert.verdict fault.point fault.rule other.point other.rule first told in
            ap₂ (λ r i. Err (record { rule = r; point = i })) same.1 same.0,
      );
    }

pub IsAnswer-certified : (rule : StepRule) (x : List ℕ) (cert : CertView) (top : ℕ) (reach : Reach) → IsCapped rule x top
    → IsCertified rule x cert.c cert.e cert.verdict → IsAnswer rule x cert (Ok reach)
IsAnswer-certified rule x cert top reach caps certified = record {
  valid = (λ accepted. certified, λ kept. refl);
  right = (λ accepted. certified_right rule x cert.c cert.e cert.verdict top caps certified, λ right. refl);
  broken = λ fault. (λ same. cc same, λ first. absurd (IsFirstBroken-uncertified rule x cert.c cert.e cert.verdict fault.point fault.rule first certified));
}

-- what holds of the lists that were lent holds of the certificate that is seen
pub seen : (P : List ℕ → List ℕ → Reach → Type 0) (view inside : CertView) (c e : List ℕ) → c ≡ inside.c → e ≡ inside.e → inside ≡ view → P c e inside.verdict → P view.c view.e view.verdict
seen P view inside c e braking speeds same holds =
    let all_braking : c ≡ view.c = braking ∙ ap (λ (v : CertView). v.c) same in
    let all_speeds : e ≡ view.e = speeds ∙ ap (λ (v : CertView). v.e) same in
    let verdict : inside.verdict ≡ view.verdict = ap (λ (v : CertView). v.verdict) same in
    rw (all_braking, all_speeds, verdict) at holds
