use Rattle.run_rules.proofs.AgreeFacts.{envelopes_agree_after, envelopes_agree_before}
use Rattle.effort_run.proofs.laws_of_envelopes.Goals as goal

pub returns-clause-before : goal.returns-clause-before
returns-clause-before c = envelopes_agree_before

pub returns-clause-after : goal.returns-clause-after
returns-clause-after c = envelopes_agree_after
