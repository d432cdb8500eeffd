use Rattle.std.proofs.lemmas.List.Sorted.{IsPermutation-remove}
use Rattle.limit_profile.proofs.RankFacts.{place-same, ranked-without}
use Rattle.limit_profile.proofs.ranks.remove.Goals as goal

pub returns-clause-same : goal.returns-clause-same
returns-clause-same c =
    let zones = c.args.zones.now.items in
    let place = c.count_ranked-place.result in
    let parts = rw (c.deref.ensures.value, c.rank.ensures) at c.count_ranked-place.ensures.parts in
    let at = place-same zones c.args.zone place c.requires.lie c.requires.there c.requires.ranked parts in
    rw c.remove.ensures.items (IsPermutation-remove zones place c.args.zone at.0 at.1)

pub returns-clause-ranked : goal.returns-clause-ranked
returns-clause-ranked c =
    let zones = c.args.zones.now.items in
    let place = c.count_ranked-place.result in
    let parts = rw (c.deref.ensures.value, c.rank.ensures) at c.count_ranked-place.ensures.parts in
    let at = place-same zones c.args.zone place c.requires.lie c.requires.there c.requires.ranked parts in
    rw c.remove.ensures.items (ranked-without zones place at.0 c.requires.ranked)
