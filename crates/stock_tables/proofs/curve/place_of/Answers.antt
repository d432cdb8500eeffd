use Rattle.stock_tables.proofs.CurveFacts.{IsPassed-next}
use Rattle.stock_tables.proofs.curve.place_of.Goals as goal

pub loop-place-preserved : goal.loop-place-preserved
loop-place-preserved c = IsPassed-next c.args.rows.now c.loop-place.place c.args.kmh c.loop-place.invariant c.loop-place-test.true c.if-rows-place.true
