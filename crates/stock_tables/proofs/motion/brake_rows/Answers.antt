use Rattle.std.proofs.Common.{length, arith, pos}
use Rattle.std.proofs.lemmas.List.FromFn.{fill_by_all}
use Rattle.run_rules.specs.Grids.{row}
use Rattle.stock_tables.specs.Motion.{brake_loss}
use Rattle.stock_tables.proofs.motion.brake_rows.Goals as goal

pub returns : goal.returns
returns c =
    fill_by_all (λ k. brake_loss (row c.args.rates.items k)) c.loop-k.rows.items (length c.args.rates.items) (pos 0) c.loop-k.invariant.long
    (λ j h. c.loop-k.invariant.done j (omega arith))
