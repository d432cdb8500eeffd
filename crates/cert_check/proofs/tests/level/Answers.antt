use Rattle.std.proofs.Common.{◌≡◌, replicate, rules}
use Rattle.table_laws.proofs.ToyFacts.{IsTable-toy}
use Rattle.cert_check.proofs.tests.level.Goals as goal

pub new-requires : goal.new-requires
new-requires g c =
    let items : c.in_ok-vec.field-0.items ≡ replicate 61 c.args.value = search rules in
    IsTable-toy c.in_ok-vec.field-0.items c.args.value c.args.value items c.requires.least c.requires.most c.requires.least c.requires.most
