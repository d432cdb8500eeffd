use Rattle.std.proofs.Common.{subst, sym}
use Rattle.session_replies.proofs.AnswerFacts.{responds}
use Rattle.session_replies.specs.Cases.{CaseView, IsLawfulCase, case_in}
use Rattle.session_replies.specs.Replies.{talk}
use Rattle.session_replies.specs.TalkLaws.{stays}
use Rattle.session_lines.specs.Sessions.{Responds}
use Rattle.session_replies.proofs.session.SessionResponder.respond.Goals as goal

pub write_answer-requires-clause-lawful : goal.write_answer-requires-clause-lawful
write_answer-requires-clause-lawful g c =
    let law = subst IsLawfulCase (sym c.self.view_is) c.requires in
    subst IsLawfulCase (sym c.answer_line-answer.ensures.comes.next) (stays (case_in c.self.inside.envelope) c.args.line.now law)

pub returns : goal.returns
returns g c =
    let a = c.self.inside.envelope in
    let b = c.answer_line-answer.new.envelope in
    let line = c.args.line.now in
    let old = g.K.Sink.told c.args.out.now in
    let new = g.K.Sink.told c.write_answer.new.out in
    let law = subst IsLawfulCase (sym c.self.view_is) c.requires in
    let came = c.answer_line-answer.ensures in
    subst (λ (s : CaseView). Responds talk s (case_in b) line old new c.args.steps.now c.write_answer.new.steps c.write_answer.result) c.self.view_is
    (responds a b line law c.self.invariant.scratch came.kept.scratch c.answer_line-answer.result c.args.steps.now c.answer_line-answer.new.steps came.comes old new c.write_answer.new.steps c.write_answer.result c.write_answer.ensures)
