use Rattle.stock_tables.proofs.CurveFacts.{value_on-sum}
use Rattle.stock_tables.proofs.curve.value_on.Goals as goal

pub returns : goal.returns
returns c =
    value_on-sum c.args.here c.args.there c.args.kmh c.from.result c.from-2.result c.from-3.result c.part_of.result c.requires.here c.requires.there c.requires.from c.requires.to
    c.requires.rises c.from.ensures c.from-2.ensures c.from-3.ensures c.part_of.ensures
