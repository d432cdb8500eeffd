use Rattle.std.proofs.Common.{◌≡◌, ◌∙◌, None, Option, Some, ap, refl, sym}
use Rattle.line_tables.specs.Points.{find_point}
use Rattle.session_replies.proofs.AnswerFacts.{Comes-refused}
use Rattle.session_replies.specs.Asked.{unknown_point}
use Rattle.session_replies.specs.declared.answers.Answer.TheVariants as answer
use Rattle.time_brackets.specs.declared.Bracket.{Bracket}
use Rattle.session_replies.proofs.commands.time.Goals as goal

pub returns-in-Some : goal.returns-in-Some
returns-in-Some g c =
    let v = c.args.envelope.now in
    let found : find_point c.args.name.now v.line.points ≡ Some c.in-Some.point = sym (rw c.line.ensures.line at c.find.ensures.value) ∙ c.in-Some.is in
    rw found (record { next = refl; answer = ap (λ (o : Option Bracket). answer.Time o) c.bracket.ensures.arrival; cost = c.bracket.ensures.cost })

pub returns-in-None : goal.returns-in-None
returns-in-None g c =
    let v = c.args.envelope.now in
    let found : find_point c.args.name.now v.line.points ≡ None = sym (rw c.line.ensures.line at c.find.ensures.value) ∙ c.in-None.is in
    rw found (Comes-refused v unknown_point c.args.steps.now)
