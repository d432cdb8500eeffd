use Rattle.std.proofs.Common.{List, OnErr, ℕ, subst}
use Rattle.run_io.specs.Told.{WritesFront}
use Rattle.session_replies.proofs.SumFacts.{put_together}
use Rattle.session_replies.proofs.summary.write_summary.Goals as goal

pub returns-clause-failed : goal.returns-clause-failed
returns-clause-failed g c =
    let old = g.K.Sink.told c.args.out.now in
    let new = g.K.Sink.told c.flush.new.out in
    let text = put_together c.args.summary.now c.put_last.new.block c.put_count.new.block c.put_count-2.new.block c.put_count-3.new.block c.put_count-4.new.block c.put_count-5.new.block c.put_count-6.new.block
    c.put_last.ensures.text c.put_count.ensures.text c.put_count-2.ensures.text c.put_count-3.ensures.text c.put_count-4.ensures.text c.put_count-5.ensures.text c.put_count-6.ensures.text in
    subst (λ (t : List ℕ). OnErr c.flush.result (WritesFront old new t)) text c.flush.ensures.failed
