use Rattle.std.proofs.Common.{ltb, ltb-false, ltb-true, rules}
use Rattle.std.proofs.lemmas.List.Sorted.{IsPartitionPoint-from_clause, IsPartitionedBy-ltb}
use Rattle.limit_profile.specs.Ranks.{rank_of}
use Rattle.limit_profile.proofs.ranks.count_ranked.Goals as goal

pub returns-clause-parts : goal.returns-clause-parts
returns-clause-parts c =
    let parted = IsPartitionedBy-ltb rank_of c.args.zones.now c.args.below c.requires in
    let point = IsPartitionPoint-from_clause (λ z. ltb (rank_of z) c.args.below) _ _ c.partition_point.ensures.partitioned parted (λ a r q k. search rules) in
    (λ k d l h. ltb-true _ _ (point.0 k d l h), λ k d l h. ltb-false _ _ (point.1 k d l h))
