use Rattle.std.proofs.Common.{length, length-drop, ◌-◌, ◌≤◌, ℕ, arith}
use Rattle.std.proofs.lemmas.List.{length-take}
use Rattle.run_io.proofs.Written.{Writes-more}
use Rattle.run_io.proofs.write_whole.Goals as goal

pub loop-at-preserved : goal.loop-at-preserved
loop-at-preserved g c =
    let inv = c.loop-at.invariant in
    let cause = c.in_ok-count.ensures.cause.later in
    let bound = c.in_ok-count.ensures.bound in
    let most : c.in_ok-count.count ≤ length c.args.piece.now - c.loop-at.at = omega (arith, bound.1, length-take {A = ℕ}, length-drop {A = ℕ}) in
    record {
      within = omega (arith, inv.within, most);
      sent = Writes-more (g.K.Sink.told c.args.out.now) (g.K.Sink.told c.loop-at.out) (g.K.Sink.told c.write.new.self) c.args.piece.now c.loop-at.at c.in_ok-count.count inv.within most inv.sent c.in_ok-count.ensures.bytes;
      later = omega (arith, inv.later, cause);
    }
