use Rattle.std.proofs.Common.{arith}
use Rattle.run_io.proofs.BlockFacts.{decimal-half}
use Rattle.run_io.proofs.blocks.write_number.Goals as goal

pub write_digits-at-requires : goal.write_digits-at-requires
write_digits-at-requires c =
    let digits = decimal-half c.unsigned_abs.result c.unsigned_abs.ensures.bound in
    (omega (arith, digits, c.requires.0), c.requires.1)

pub returns-then-number-ge0-clause-start : goal.returns-then-number-ge0-clause-start
returns-then-number-ge0-clause-start c =
    let digits = decimal-half c.unsigned_abs.result c.unsigned_abs.ensures.bound in
    let start = c.write_digits-at.ensures.start in
    (omega (arith, digits, start), omega (arith, start))

pub write_byte-requires : goal.write_byte-requires
write_byte-requires c =
    let digits = decimal-half c.unsigned_abs.result c.unsigned_abs.ensures.bound in
    let start = c.write_digits-at.ensures.start in
    (omega (arith, digits, start, c.requires.0), omega (arith, start, c.requires.1))

pub returns-clause-start : goal.returns-clause-start
returns-clause-start c =
    let digits = decimal-half c.unsigned_abs.result c.unsigned_abs.ensures.bound in
    let start = c.write_digits-at.ensures.start in
    let sign = c.write_byte.ensures.start in
    (omega (arith, digits, start, sign), omega (arith, start, sign))
