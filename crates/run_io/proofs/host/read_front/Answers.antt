use Rattle.std.proofs.Common.{arith, rules, ◌≡◌, ◌++◌, ◌-◌, List, ℕ, take, min, length}
use Rattle.std.proofs.KnownBytes.{Consumes-trans}
use Rattle.run_io.proofs.ReadFacts.{front_grown}
use Rattle.run_io.proofs.host.read_front.Goals as goal

pub loop-buf-preserved : goal.loop-buf-preserved
loop-buf-preserved g c =
    let inv = c.loop-buf.invariant in
    let told = g.S.Source.told in
    let count = c.in-Ok.count in
    let piece : List ℕ = c.read.new.buf in
    let grown = front_grown c.args.most count inv.gone c.loop-buf.into.items piece inv.front (search rules) in
    let items : c.extend_from_slice.new.self.items ≡ c.loop-buf.into.items ++ take (min count (c.args.most - length c.loop-buf.into.items)) piece = search rules in
    record {
      gone = inv.gone ++ take count piece;
      taken = Consumes-trans (told c.args.file.now).holds (told c.loop-buf.file).holds (told c.read.new.self).holds inv.gone (take count piece) inv.taken c.in-Ok.ensures.bytes.0;
      later = omega (arith, inv.later, c.in-Ok.ensures.cause.later);
      front = rw items grown;
    }
