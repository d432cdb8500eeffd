-- The fastest run of a case.
use Rattle.std.specs.Prelude.{ℕ, ◌-◌, ◌<◌, List, length}
use Rattle.allowances.specs.Arrivals.{arrival}
use Rattle.allowances.specs.Laws.{IsNoLater}
use Rattle.cert_check.specs.Laws.{IsCertificateOf}
use Rattle.cert_check.specs.Rules.{IsCertified}
use Rattle.certificate.specs.Texts.{CertView, IsCert}
use Rattle.run_rules.specs.Runs.{Keeps}
use Rattle.incr_envelope.specs.Envelope.{EnvelopeView}
use Rattle.session_replies.specs.Cases.{CaseView, caps_of, rule_of}

-- the run that an envelope keeps
abbrev pub run_in : EnvelopeView → CertView
run_in v = record { c = v.brakes; e = v.speeds; verdict = v.reach }

-- no train of the case that gets to the last of the first `points` points comes to one of them sooner than e does, by either
-- end of its arrival
abbrev pub NoneIsSooner : CaseView → List ℕ → ℕ → Type 0
NoneIsSooner c e points =
    (q : List ℕ) → Keeps (rule_of c) (caps_of c) q (points - 1)
    → (i : ℕ) → i < points → IsNoLater (arrival c.plan e i) (arrival c.plan q i)

-- the three values are the certificate of a case: its braking list, its envelope, and how far the train gets. They break none
-- of the rules of the checker and have a text, and no train is sooner than the envelope at any of its points
pub record IsRunOf (c : CaseView) (run : CertView) : Type 0 where
  pub right : IsCertificateOf (rule_of c) (caps_of c) run.c run.e run.verdict
  pub certified : IsCertified (rule_of c) (caps_of c) run.c run.e run.verdict
  pub is_text : IsCert run
  pub soonest : NoneIsSooner c run.e (length run.e)
