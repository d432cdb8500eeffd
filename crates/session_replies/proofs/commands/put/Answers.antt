use Rattle.std.proofs.Common.{◌∙◌, ◌≤◌, Err, ap, arith, inl, inr, subst, sym}
use Rattle.restrictions.specs.declared.force.EditFault.{EditFault}
use Rattle.session_replies.proofs.AnswerFacts.{Comes-put, Comes-put_refused}
use Rattle.session_replies.proofs.RoomFacts.{HasRoom-put}
use Rattle.session_replies.specs.Room.{HasRoom}
use Rattle.session_replies.proofs.commands.put.Goals as goal

pub returns-in-Ok-clause-comes : goal.returns-in-Ok-clause-comes
returns-in-Ok-clause-comes g c =
    let made = c.in-Ok.ensures in
    Comes-put c.args.envelope.now c.put.new.self c.args.id c.args.zone c.in-Ok.reach c.args.steps.now c.put.new.steps made.one_case made.put made.reach made.cost

pub returns-in-Err-clause-comes : goal.returns-in-Err-clause-comes
returns-in-Err-clause-comes g c =
    let a = c.args.envelope.now in
    let kept = c.requires.kept in
    let spare : 1 ≤ a.spare = omega (arith, kept.room, kept.scratch.few) in
    let same = c.in-Err.ensures.same in
    elim c.in-Err.ensures.refused [
      | inl memory ↦ absurd (c.put.ensures.room spare (c.in-Err.is ∙ ap (λ (f : EditFault). Err f) memory))
      | inr refused ↦ Comes-put_refused a c.put.new.self c.args.id c.args.zone c.in-Err.fault c.code.result c.args.steps.now c.put.new.steps same.0 same.1 refused c.code.ensures
    ]

pub returns-in-Ok-clause-kept : goal.returns-in-Ok-clause-kept
returns-in-Ok-clause-kept g c =
    let made = c.in-Ok.ensures in
    HasRoom-put c.args.envelope.now c.put.new.self c.args.id c.args.zone c.requires.kept made.kept made.put made.spare

pub returns-in-Err-clause-kept : goal.returns-in-Err-clause-kept
returns-in-Err-clause-kept g c = subst HasRoom (sym c.in-Err.ensures.same.0) c.requires.kept
