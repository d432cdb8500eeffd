-- Zones by rank that don't bind from a point on and below another.
use Rattle.std.proofs.Common.{◌≡◌, ◌≤◌, ◌<◌, ◌+◌, ◌^◌, ℕ, List, All, false, length, get_or, arith}
use Rattle.std.specs.List.Sorted.{IsNonDecreasingBy}
use Rattle.std.proofs.lemmas.List.{get_or_default}
use Rattle.unit_rules.specs.Zone.{LiesOn}
use Rattle.unit_rules.specs.declared.Zone.{Zone}
use Rattle.run_rules.specs.Caps.{binds_at}
use Rattle.limit_profile.specs.Course.{IsCourse}
use Rattle.limit_profile.specs.Ranks.{class_of, first_rank_of, rank_of}
use Rattle.limit_profile.specs.declared.pieces.Course.{Course}
use Rattle.limit_profile.proofs.CountFacts.{binds-before, binds-past}
use Rattle.limit_profile.proofs.RankFacts.{class-long, lie-longest, rank-before, rank-past}

-- those of a zone's class that begin too soon
pub apart-before : (c : Course) (zones : List Zone) (index k i point first : ℕ) (d e : Zone) → IsCourse c → All (LiesOn c.length) zones → IsNonDecreasingBy rank_of zones
    → index < k → k < length zones → point ≤ c.length → first ≤ point → ((from : ℕ) → from < first → from + 2 ^ class_of (get_or zones index e) + c.train ≤ point)
    → rank_of (get_or zones k d) < first_rank_of (class_of (get_or zones index e)) first → point ≤ i → binds_at c.length c.train i (get_or zones k d) ≡ false
apart-before c zones index k i point first d e course lie up past l on_line before near below from =
    let y = get_or zones index e in
    let w = get_or zones k d in
    let lie_longest = lie-longest c.length zones course.short lie in
    let short = course.short in
    let least : rank_of y ≤ rank_of w = rw (get_or_default zones index e d (omega arith)) (up index k d (omega arith) l) in
    let sooner = rank-before y w first (lie_longest index e (omega arith)) (lie_longest k d l) (omega arith) least below in
    let long = rw sooner.0 at (class-long c.length w short (lie k d l)) in
    binds-past c.length c.train i w (omega (arith, sooner.1)) (omega (arith, near w.from sooner.1, long))

-- and those that begin too late
pub apart-past : (c : Course) (zones : List Zone) (index k i until : ℕ) (d e : Zone) → IsCourse c → All (LiesOn c.length) zones → IsNonDecreasingBy rank_of zones
    → index < k → k < length zones → until ≤ (get_or zones index e).from
    → rank_of (get_or zones k d) < first_rank_of (class_of (get_or zones index e) + 1) 0 → i < until → binds_at c.length c.train i (get_or zones k d) ≡ false
apart-past c zones index k i until d e course lie up past l late below before =
    let y = get_or zones index e in
    let w = get_or zones k d in
    let lie_longest = lie-longest c.length zones course.short lie in
    let least : rank_of y ≤ rank_of w = rw (get_or_default zones index e d (omega arith)) (up index k d (omega arith) l) in
    let later = rank-past y w (lie_longest index e (omega arith)) (lie_longest k d l) least below in
    binds-before c.length c.train i w (omega (arith, later, late))
