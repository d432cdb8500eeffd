use Rattle.std.proofs.Common.{arith}
use Rattle.allowances.proofs.EndedFacts.{HaveEnded-more, HaveEnded-small}
use Rattle.allowances.proofs.progress.Progress.to.Goals as goal

pub overflow_add-added : goal.overflow_add-added
overflow_add-added c =
    let so_far = HaveEnded-small c.args.allowances.now c.args.point c.loop-index.index c.loop-index.added c.loop-index.invariant in
    omega (arith, so_far, c.index-allowances-index.result.small)

pub loop-index-preserved : goal.loop-index-preserved
loop-index-preserved c =
    let next = c.index-allowances-index.result in
    HaveEnded-more c.args.allowances.now c.args.point c.loop-index.index c.loop-index.added next next c.index-allowances-index.is c.loop-index-test.true c.if-point-next.false c.loop-index.invariant
