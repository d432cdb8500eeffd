use Rattle.std.proofs.Common.{subst, sym}
use Rattle.session_replies.proofs.AnswerFacts.{comes_to}
use Rattle.session_replies.specs.Asked.{asked}
use Rattle.session_replies.specs.Cases.{CaseView, IsLawfulCase, case_in}
use Rattle.session_replies.specs.Replies.{ComesTo}
use Rattle.session_replies.proofs.session.Session.answer.Goals as goal

pub returns : goal.returns
returns g c =
    let a = c.self.inside.envelope in
    let b = c.answer_line.new.envelope in
    let line = c.args.line.now in
    let law = subst IsLawfulCase (sym c.self.view_is) c.requires in
    let came = c.answer_line.ensures in
    subst (λ (s : CaseView). ComesTo s (case_in b) (asked s line) c.answer_line.result c.args.steps.now c.answer_line.new.steps) c.self.view_is
    (comes_to a b line law c.self.invariant.scratch came.kept.scratch c.answer_line.result c.args.steps.now c.answer_line.new.steps came.comes)
