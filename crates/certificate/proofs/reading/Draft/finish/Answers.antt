use Rattle.std.proofs.Common.{◌<◌, length, arith, sym, ◌∙◌}
use Rattle.std.proofs.lemmas.Bool.{eqb-false}
use Rattle.certificate.proofs.WalkFacts.{finished-behind}
use Rattle.certificate.proofs.reading.Draft.finish.Goals as goal

pub returns : goal.returns
returns c =
    let none = eqb-false (length c.args.behind.now) 0 (sym c.is_empty.ensures ∙ c.if-is_empty.false) in
    let some : 0 < length c.args.behind.now = omega (arith, none) in
    rw c.count.ensures.count (sym (finished-behind c.args.self c.args.verdict c.args.behind.now some))
