use Rattle.std.proofs.Common.{◌≡◌, ◌+◌, arith, refl}
use Rattle.std.proofs.lemmas.List.FromFn.{map-range_with_len_more}
use Rattle.limit_profile.specs.Profile.{cap}
use Rattle.run_cli.proofs.caps.list_caps.Goals as goal

pub loop-point-init : goal.loop-point-init
loop-point-init c = record { listed = c.new-caps.ensures.items; level = c.empty-level.ensures c.args.limits.now }

pub cap_near-requires : goal.cap_near-requires
cap_near-requires c = record { on_line = omega (arith, c.requires.length, c.loop-point-test.true); level = c.loop-point.invariant.level }

pub returns : goal.returns
returns c =
    let all : c.loop-point.point ≡ c.args.limits.now.length + 1 = omega (arith, c.requires.length, c.loop-point-test.false, c.loop-point.auto.point-end) in
    rw all at c.loop-point.invariant.listed

pub loop-point-preserved : goal.loop-point-preserved
loop-point-preserved c =
    let more = map-range_with_len_more (cap c.args.limits.now) 0 c.loop-point.point c.loop-point.point (omega arith) in
    record {
      listed = rw (c.in-Ok.ensures.items, more, c.cap_near.ensures.cap, c.loop-point.invariant.listed) refl;
      level = c.cap_near.ensures.level;
    }
