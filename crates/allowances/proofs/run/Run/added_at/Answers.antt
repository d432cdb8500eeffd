use Rattle.std.proofs.Common.{◌<◌, arith, sym}
use Rattle.allowances.specs.Progress.{IsAllowanceOf}
use Rattle.allowances.proofs.AddedFacts.{AreAllowancesOf-length, added-all, added-next, added_by-share, time-begins, time-within}
use Rattle.allowances.proofs.EndedFacts.{HaveEnded-small}
use Rattle.allowances.proofs.run.Run.added_at.Goals as goal

pub share_at-requires-clause-time : goal.share_at-requires-clause-time
share_at-requires-clause-time c =
    let next = c.in-Some.next.now in
    let there = c.in-Some.ensures.lookup.3 in
    let is : IsAllowanceOf c.args.self.now.e.now next = rw (there.1 next) (c.requires.laid.allowances.each c.args.progress.ended next there.0) in
    time-begins c.args.self.now.e.now c.args.at c.args.time next is c.requires.time

pub share_at-requires-clause-within : goal.share_at-requires-clause-within
share_at-requires-clause-within c =
    let next = c.in-Some.next.now in
    let there = c.in-Some.ensures.lookup.3 in
    let is : IsAllowanceOf c.args.self.now.e.now next = rw (there.1 next) (c.requires.laid.allowances.each c.args.progress.ended next there.0) in
    let ahead : c.args.at < next.section.to = rw (there.1 next) (c.requires.progress.ahead next there.0) in
    time-within c.args.self.now.e.now c.args.at c.args.time next is c.requires.time ahead

pub overflow_add-result : goal.overflow_add-result
overflow_add-result c =
    let few = c.requires.laid.plan.sections.few in
    let counted = AreAllowancesOf-length c.args.self.now.e.now c.args.self.now.plan.now.sections c.args.self.now.allowances.now c.requires.laid.allowances in
    let so_far = HaveEnded-small c.args.self.now.allowances.now c.args.at c.args.progress.ended c.args.progress.added c.requires.progress.ended in
    omega (arith, c.share_at.ensures.small)

pub returns-in-Some-clause-added : goal.returns-in-Some-clause-added
returns-in-Some-clause-added c =
    let run = c.args.self.now in
    let next = c.in-Some.next.now in
    let plan = c.requires.laid.plan in
    let there = c.in-Some.ensures.lookup.3 in
    let is : IsAllowanceOf run.e.now next = rw (there.1 next) (c.requires.laid.allowances.each c.args.progress.ended next there.0) in
    let ahead : c.args.at < next.section.to = rw (there.1 next) (c.requires.progress.ahead next there.0) in
    let adds = added-next run.e.now c.args.at run.plan.now.sections run.allowances.now c.requires.laid.allowances plan.sections.hold plan.sections.follow c.args.progress.ended c.args.progress.added next c.requires.progress.ended c.requires.progress.ahead there.0 in
    let share = added_by-share run.e.now c.args.at c.args.time next is c.requires.time ahead in
    let sum = rw (← there.1 next) at adds in
    omega (arith, sum, share, c.share_at.ensures.share)

pub returns-in-Some-clause-small : goal.returns-in-Some-clause-small
returns-in-Some-clause-small c =
    let few = c.requires.laid.plan.sections.few in
    let counted = AreAllowancesOf-length c.args.self.now.e.now c.args.self.now.plan.now.sections c.args.self.now.allowances.now c.requires.laid.allowances in
    let so_far = HaveEnded-small c.args.self.now.allowances.now c.args.at c.args.progress.ended c.args.progress.added c.requires.progress.ended in
    let there = c.in-Some.ensures.lookup.3 in
    omega (arith, c.share_at.ensures.small, there.0)

pub returns-in-None-clause-added : goal.returns-in-None-clause-added
returns-in-None-clause-added c =
    let run = c.args.self.now in
    let plan = c.requires.laid.plan in
    sym (added-all run.e.now c.args.at run.plan.now.sections run.allowances.now c.requires.laid.allowances plan.sections.hold plan.sections.follow c.args.progress.ended c.args.progress.added c.requires.progress.ended c.in-None.ensures.lookup.3)

pub returns-in-None-clause-small : goal.returns-in-None-clause-small
returns-in-None-clause-small c =
    let few = c.requires.laid.plan.sections.few in
    let counted = AreAllowancesOf-length c.args.self.now.e.now c.args.self.now.plan.now.sections c.args.self.now.allowances.now c.requires.laid.allowances in
    let so_far = HaveEnded-small c.args.self.now.allowances.now c.args.at c.args.progress.ended c.args.progress.added c.requires.progress.ended in
    let some = c.requires.progress.ended.some in
    omega arith
