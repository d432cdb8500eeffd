use Rattle.stock_tables.proofs.CurveFacts.{is_rising-each, not_rising, rises_more}
use Rattle.stock_tables.proofs.curve.is_rising.Goals as goal

pub returns-then-rows-i : goal.returns-then-rows-i
returns-then-rows-i c = not_rising c.args.rows.now c.loop-i.i c.loop-i.auto.i c.loop-i-test.true c.if-rows-i.true

pub loop-i-preserved : goal.loop-i-preserved
loop-i-preserved c = rises_more c.args.rows.now c.loop-i.i c.loop-i.auto.i c.loop-i-test.true c.loop-i.invariant c.if-rows-i.false

pub returns : goal.returns
returns c = is_rising-each c.args.rows.now c.loop-i.i c.loop-i-test.false c.loop-i.invariant
