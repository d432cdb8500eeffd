use Rattle.std.proofs.lemmas.List.Sorted.{IsPermutation-insert}
use Rattle.limit_profile.proofs.ranks.insert.Goals as goal

pub returns-clause-same : goal.returns-clause-same
returns-clause-same c = rw c.in-Ok.ensures.items (IsPermutation-insert c.args.zones.now.items c.count_ranked-place.result c.args.zone)
