use Rattle.std.proofs.Common.{arith, length-append, ℕ}
use Rattle.run_io.proofs.BlockFacts.{decimal-short, room-before}
use Rattle.run_io.proofs.blocks.Block.put_number.Goals as goal

pub write_digits-self-inside-requires : goal.write_digits-self-inside-requires
write_digits-self-inside-requires c =
    let room = room-before c.self.inside.bytes c.args.self.now c.self.inside.at 20 c.self.view_is (omega (arith, c.requires)) in
    let digits = decimal-short c.args.number (omega arith) in
    (omega (arith, room, digits), omega arith)

pub returns-clause-short : goal.returns-clause-short
returns-clause-short c =
    let digits = decimal-short c.args.number (omega arith) in
    rw (c.write_digits-self-inside.ensures.written, c.self.view_is) (omega (arith, digits, length-append {A = ℕ}))
