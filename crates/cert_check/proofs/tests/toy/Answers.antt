use Rattle.std.proofs.Common.{ap, arith, pos}
use Rattle.std.proofs.lemmas.Int.{ints}
use Rattle.table_laws.specs.Laws.{BandTable}
use Rattle.table_laws.proofs.ToyFacts.{row-toy}
use Rattle.cert_check.proofs.tests.toy.Goals as goal

pub new-requires-clause-brakes : goal.new-requires-clause-brakes
new-requires-clause-brakes g c =
    let rows = ap (λ (table : BandTable). table.rows) c.in_ok-brake.ensures in
    row-toy c.in_ok-brake.brake.rows (pos 25920) (pos 25920) (pos 12960) rows (omega (arith, ints)) (omega (arith, ints))
