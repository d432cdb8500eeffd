use Rattle.std.proofs.Common.{sym, ◌∙◌}
use Rattle.stock_tables.proofs.CurveFacts.{IsCurveTo-ordered}
use Rattle.stock_tables.proofs.curve.Curve.new.Goals as goal

pub invariant_of-result : goal.invariant_of-result
invariant_of-result c =
    (IsCurveTo-ordered c.args.top c.args.rows.items (rw c.deref.ensures.value at (sym c.are_in_order.ensures ∙ c.if-are_in_order.true)) c.requires).curve

pub returns-then-are_in_order-clause-curve : goal.returns-then-are_in_order-clause-curve
returns-then-are_in_order-clause-curve c =
    IsCurveTo-ordered c.args.top c.args.rows.items (rw c.deref.ensures.value at (sym c.are_in_order.ensures ∙ c.if-are_in_order.true)) c.requires
