use Rattle.allowances.proofs.AddedFacts.{AreAllowancesOf-amounts}
use Rattle.allowances.proofs.amounts.Goals as goal

pub returns-clause-amounts : goal.returns-clause-amounts
returns-clause-amounts g c =
    let amounts = AreAllowancesOf-amounts c.args.e.now c.args.plan.now.sections c.in_ok-allowances.allowances.items c.in_ok-allowances.ensures.allowances in
    rw (← amounts, ← c.deref.ensures.value) c.amounts_in.ensures
