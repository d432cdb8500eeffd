use Rattle.std.proofs.Common.{sym, ap, ◌∙◌, Ok}
use Rattle.stock_tables.proofs.LawFacts.{lawful_table-lawful, lawful_table-broken}
use Rattle.stock_tables.proofs.stock.lawful_table.Goals as goal

pub returns-in-Ok-clause-value : goal.returns-in-Ok-clause-value
returns-in-Ok-clause-value c = ap (λ t. Ok t) c.in-Ok.ensures.ok ∙ sym (lawful_table-lawful c.args.number c.args.law c.args.rows.items c.in-Ok.ensures.kept)

pub returns-in-Err-clause-value : goal.returns-in-Err-clause-value
returns-in-Err-clause-value c =
    let k = c.broken_at.ensures in
    rw k (sym (lawful_table-broken c.args.number c.args.law c.args.rows.items _ c.in-Err.ensures.broken))
