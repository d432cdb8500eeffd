use Rattle.std.proofs.Common.{◌+◌, ◌-◌, arith}
use Rattle.time_brackets.proofs.SumFacts.{HasSums-bounded, HasSums-cell, HasSums-join, HasSums-none, IsBounded-plus}
use Rattle.time_brackets.proofs.sums.times_over.Goals as goal

pub followed_by-last-requires : goal.followed_by-last-requires
followed_by-last-requires g c =
    let moving = c.requires.moving.moving c.loop-i.i (omega arith) in
    omega arith

pub loop-i-init : goal.loop-i-init
loop-i-init g c = record {
  here = c.of-here.ensures;
  sums = HasSums-none c.args.e.now c.args.from (c.args.from - c.args.from) c.none-sum.result (omega arith) c.none-sum.ensures.lo c.none-sum.ensures.hi;
  cost = omega arith;
}

pub plus-sum-requires : goal.plus-sum-requires
plus-sum-requires g c =
    let sums = HasSums-cell c.args.e.now c.loop-i.i c.loop-i.here.squared c.at_next-next.result.squared c.followed_by-last.result.times c.loop-i.invariant.here c.at_next-next.ensures c.followed_by-last.ensures.lo c.followed_by-last.ensures.hi in
    let cell = HasSums-bounded c.args.e.now (c.args.to + 1) c.loop-i.i 1 c.followed_by-last.result.times c.requires.moving (omega arith) sums in
    let so_far = HasSums-bounded c.args.e.now (c.args.to + 1) c.args.from (c.loop-i.i - c.args.from) c.loop-i.sum c.requires.moving (omega arith) c.loop-i.invariant.sums in
    IsBounded-plus (c.loop-i.i - c.args.from) 1 c.loop-i.sum c.followed_by-last.result.times so_far cell (omega arith)

pub loop-i-preserved : goal.loop-i-preserved
loop-i-preserved g c =
    let sums = HasSums-cell c.args.e.now c.loop-i.i c.loop-i.here.squared c.at_next-next.result.squared c.followed_by-last.result.times c.loop-i.invariant.here c.at_next-next.ensures c.followed_by-last.ensures.lo c.followed_by-last.ensures.hi in
    record {
      here = c.at_next-next.ensures;
      sums = HasSums-join c.args.e.now c.args.from (c.loop-i.i - c.args.from) c.loop-i.i 1 (c.loop-i.i + 1 - c.args.from) c.loop-i.sum c.followed_by-last.result.times c.plus-sum.result (omega arith) (omega arith) c.loop-i.invariant.sums sums c.plus-sum.ensures.lo c.plus-sum.ensures.hi;
      cost = omega arith;
    }
