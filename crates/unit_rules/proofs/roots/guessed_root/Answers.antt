use Rattle.std.proofs.Common.{◌<◌, ◌≤◌, ◌^◌, arith, bit_or}
use Rattle.std.proofs.lemmas.Nat.{leading_top, le_or_r, or_lt}
use Rattle.unit_rules.proofs.roots.guessed_root.Goals as goal

pub overflow_shl-scaled : goal.overflow_shl-scaled
overflow_shl-scaled c =
    let some : 1 ≤ bit_or c.args.n 1 = le_or_r c.args.n 1 in
    let fits : bit_or c.args.n 1 < 2 ^ 64 = or_lt 64 c.args.n 1 (omega arith) (omega arith) in
    let top = leading_top 64 (bit_or c.args.n 1) some fits in
    omega (arith, top.1)
