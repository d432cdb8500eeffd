use Rattle.std.proofs.Common.{subst, sym}
use Rattle.session_replies.proofs.AnswerFacts.{IsRunOf-scratch}
use Rattle.session_replies.specs.Cases.{CaseView, IsLawfulCase, case_in}
use Rattle.session_replies.specs.Replies.{Arrives}
use Rattle.session_replies.specs.Runs.{run_in}
use Rattle.session_replies.proofs.session.Session.arrival.Goals as goal

pub returns-clause-arrival : goal.returns-clause-arrival
returns-clause-arrival g c =
    let v = c.self.inside.envelope in
    let law = subst IsLawfulCase (sym c.self.view_is) c.requires.lawful in
    let own : Arrives (case_in v) c.args.point c.bracket.result = record { run = run_in v; is_run = IsRunOf-scratch v law c.self.invariant.scratch; is = c.bracket.ensures.arrival } in
    subst (λ (s : CaseView). Arrives s c.args.point c.bracket.result) c.self.view_is own
