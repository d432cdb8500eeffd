-- When trains come to points, by the definitions alone.
use Rattle.std.proofs.Common.{arith}
use Rattle.time_brackets.proofs.LawFacts.{sums_never_rise}
use Rattle.allowances.specs.Laws.{FasterIsNoLater}

-- a train that is nowhere slower comes to no point later
pub faster_is_no_later : FasterIsNoLater
faster_is_no_later plan q e n i moving slower on =
    let sums = sums_never_rise q e n 0 i moving slower (omega arith) in
    record { lo = omega (arith, sums.0); hi = omega (arith, sums.1) }
