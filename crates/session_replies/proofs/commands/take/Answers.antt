use Rattle.std.proofs.Common.{subst, sym}
use Rattle.session_replies.proofs.AnswerFacts.{Comes-take_refused, Comes-taken, take_from-taken}
use Rattle.session_replies.proofs.RoomFacts.{HasRoom-taken}
use Rattle.session_replies.specs.Room.{HasRoom}
use Rattle.session_replies.proofs.commands.take.Goals as goal

pub returns-in-Ok-clause-comes : goal.returns-in-Ok-clause-comes
returns-in-Ok-clause-comes g c =
    let a = c.args.envelope.now in
    let b = c.take.new.self in
    let made = c.in-Ok.ensures in
    let taken = take_from-taken c.args.id a.force b.force made.taken in
    Comes-taken a b c.args.id taken.0 c.in-Ok.reach c.args.steps.now c.take.new.steps made.one_case taken.1 taken.2 made.reach (made.cost taken.0 taken.1)

pub returns-in-Err-clause-comes : goal.returns-in-Err-clause-comes
returns-in-Err-clause-comes g c =
    let left = c.in-Err.ensures in
    Comes-take_refused c.args.envelope.now c.take.new.self c.args.id c.in-Err.fault c.code.result c.args.steps.now c.take.new.steps left.same.0 left.same.1 left.refused c.code.ensures

pub returns-in-Ok-clause-kept : goal.returns-in-Ok-clause-kept
returns-in-Ok-clause-kept g c =
    let a = c.args.envelope.now in
    let b = c.take.new.self in
    let made = c.in-Ok.ensures in
    let taken = take_from-taken c.args.id a.force b.force made.taken in
    HasRoom-taken a b c.args.id taken.0 c.requires.kept made.kept taken.1 taken.2 made.spare

pub returns-in-Err-clause-kept : goal.returns-in-Err-clause-kept
returns-in-Err-clause-kept g c = subst HasRoom (sym c.in-Err.ensures.same.0) c.requires.kept
