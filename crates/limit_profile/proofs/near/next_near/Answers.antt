use Rattle.std.proofs.Common.{◌<◌, arith}
use Rattle.unit_rules.specs.declared.Zone.{Zone}
use Rattle.limit_profile.proofs.NearFacts.{apart-before, apart-past}
use Rattle.limit_profile.proofs.near.next_near.Goals as goal

pub returns-then-other-first-clause-apart : goal.returns-then-other-first-clause-apart
returns-then-other-first-clause-apart c k i d past l from until =
    let none : Zone = record { from = 0; to = 0; kmh = 0 } in
    let zones = c.args.zones.now in
    let within : k < c.count_ranked.result = omega (arith, c.max.ensures, past, l) in
    let near = rw c.class-class.ensures.class at c.first_near-first.ensures.near in
    let parts = rw (c.first_rank.ensures, c.class-class.ensures.class) at (c.count_ranked.ensures.parts.0 k d (omega arith) within) in
    apart-before c.args.course zones c.args.index k i c.args.point c.first_near-first.result d none c.requires.course c.requires.lie c.requires.ranked
    past (omega (arith, within, c.count_ranked.ensures.bound)) c.requires.on_line c.first_near-first.ensures.before near parts from

pub returns-then-other-until-clause-apart : goal.returns-then-other-until-clause-apart
returns-then-other-until-clause-apart c k i d past l from until =
    let none : Zone = record { from = 0; to = 0; kmh = 0 } in
    let zones = c.args.zones.now in
    let within : k < c.count_ranked-then-other-until.result = omega (arith, c.max-then-other-until.ensures, past, l) in
    let parts = rw (c.first_rank-then-other-until.ensures, c.class-class.ensures.class) at (c.count_ranked-then-other-until.ensures.parts.0 k d (omega arith) within) in
    apart-past c.args.course zones c.args.index k i c.args.until d none c.requires.course c.requires.lie c.requires.ranked
    past (omega (arith, within, c.count_ranked-then-other-until.ensures.bound)) c.if-other-until.true parts until
