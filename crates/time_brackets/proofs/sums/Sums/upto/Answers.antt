use Rattle.std.proofs.Common.{◌+◌, ◌-◌, ◌*◌, ◌/◌, arith}
use Rattle.time_brackets.proofs.KeptFacts.{HasSums-past, HasSums-read, IsMoving-fewer, IsOpen-past}
use Rattle.time_brackets.proofs.SumFacts.{HasSums-join, HasSums-none, IsBounded-plus}
use Rattle.time_brackets.proofs.sums.Sums.upto.Goals as goal

pub loop-block-init : goal.loop-block-init
loop-block-init g c = HasSums-none c.args.e.now 0 0 c.none-sum.result (omega arith) c.none-sum.ensures.lo c.none-sum.ensures.hi

pub plus-sum-requires : goal.plus-sum-requires
plus-sum-requires g c =
    let open_self = IsOpen-past c.self.inside.cells c.self.inside.blocks.items c.args.self.now c.args.e.now c.args.i c.self.view_is c.self.invariant c.requires in
    let read = HasSums-read c.self.inside.cells c.self.inside.blocks.items c.args.self.now c.args.e.now c.args.i c.loop-block.block c.index.result.now c.self.view_is c.self.invariant c.requires c.index.ensures c.loop-block-test.true in
    let block = HasSums-past c.args.self.now c.args.e.now c.args.i (512 * c.loop-block.block) 512 c.index.result.now c.requires (omega arith) read in
    let so_far = HasSums-past c.args.self.now c.args.e.now c.args.i 0 (512 * c.loop-block.block) c.loop-block.sum c.requires (omega arith) c.loop-block.invariant in
    IsBounded-plus (512 * c.loop-block.block) 512 c.loop-block.sum c.index.result.now so_far block (omega (arith, open_self.short))

pub loop-block-preserved : goal.loop-block-preserved
loop-block-preserved g c =
    let read = HasSums-read c.self.inside.cells c.self.inside.blocks.items c.args.self.now c.args.e.now c.args.i c.loop-block.block c.index.result.now c.self.view_is c.self.invariant c.requires c.index.ensures c.loop-block-test.true in
    HasSums-join c.args.e.now 0 (512 * c.loop-block.block) (512 * c.loop-block.block) 512 (512 * (c.loop-block.block + 1)) c.loop-block.sum c.index.result.now c.plus-sum.result (omega arith) (omega arith) c.loop-block.invariant read c.plus-sum.ensures.lo c.plus-sum.ensures.hi

pub times_over-requires : goal.times_over-requires
times_over-requires g c =
    let open_self = IsOpen-past c.self.inside.cells c.self.inside.blocks.items c.args.self.now c.args.e.now c.args.i c.self.view_is c.self.invariant c.requires in
    let past = c.requires.past in
    record {
      ordered = omega arith;
      short = open_self.short;
      moving = IsMoving-fewer c.args.e.now c.requires.known (c.args.i + 1) (omega arith) c.requires.stands.moving;
    }

pub plus-requires : goal.plus-requires
plus-requires g c =
    let open_self = IsOpen-past c.self.inside.cells c.self.inside.blocks.items c.args.self.now c.args.e.now c.args.i c.self.view_is c.self.invariant c.requires in
    let front = HasSums-past c.args.self.now c.args.e.now c.args.i 0 (512 * c.loop-block.block) c.loop-block.sum c.requires (omega arith) c.loop-block.invariant in
    let rest = HasSums-past c.args.self.now c.args.e.now c.args.i (c.args.i / 512 * 512) (c.args.i - c.args.i / 512 * 512) c.times_over.result c.requires (omega arith) c.times_over.ensures.sums in
    IsBounded-plus (512 * c.loop-block.block) (c.args.i - c.args.i / 512 * 512) c.loop-block.sum c.times_over.result front rest (omega (arith, open_self.short))

pub returns : goal.returns
returns g c =
    let sums = HasSums-join c.args.e.now 0 (512 * c.loop-block.block) (c.args.i / 512 * 512) (c.args.i - c.args.i / 512 * 512) c.args.i c.loop-block.sum c.times_over.result c.plus.result (omega arith) (omega arith) c.loop-block.invariant c.times_over.ensures.sums c.plus.ensures.lo c.plus.ensures.hi in
    let bounded = HasSums-past c.args.self.now c.args.e.now c.args.i 0 c.args.i c.plus.result c.requires (omega arith) sums in
    record {
      lo = sums.lo;
      hi = sums.hi;
      ordered = bounded.ordered;
      short = bounded.short;
      cost = omega arith;
      cost_most = omega arith;
    }
