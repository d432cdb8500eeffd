use Rattle.std.proofs.Common.{◌+◌, ◌-◌, ◌*◌, inl, inr, arith, length-set, ◌∙◌}
use Rattle.time_brackets.proofs.KeptFacts.{AreAsBefore-set, AreMade-set, StandsFor-redone}
use Rattle.time_brackets.proofs.sums.Sums.redo.Goals as goal

pub returns-clause-stands : goal.returns-clause-stands
returns-clause-stands g c =
    let inv = c.loop-block.invariant in
    let met = c.blocks_met-first.ensures in
    rw inv.cells (StandsFor-redone c.args.self.now c.loop-block.self-inside.blocks.items c.args.e.now c.args.known c.args.from c.args.to c.blocks_met-first.result.0 c.loop-block.block c.requires.older c.requires.moving c.requires.points inv.made inv.before
    (λ b h o. met.all b h (elim o [ inl low ↦ inl low | inr high ↦ inr (omega arith) ])))

pub loop-block-preserved : goal.loop-block-preserved
loop-block-preserved g c =
    let inv = c.loop-block.invariant in
    let start = c.loop-block.block * 512 in
    let known = c.blocks_met-first.ensures.known in
    let points = c.requires.points in
    record {
      cells = inv.cells;
      blocks = length-set c.loop-block.self-inside.blocks.items c.loop-block.block c.times_over.result ∙ inv.blocks;
      made = AreMade-set c.loop-block.self-inside.blocks.items c.args.e.now c.blocks_met-first.result.0 c.loop-block.block start (start + 512 - start) c.times_over.result inv.made (omega arith) (omega arith) (omega arith) c.times_over.ensures.sums;
      before = AreAsBefore-set c.args.self.now.blocks c.loop-block.self-inside.blocks.items c.blocks_met-first.result.0 c.loop-block.block c.times_over.result (omega arith) inv.before;
      most = omega arith;
      cost = omega arith;
    }
