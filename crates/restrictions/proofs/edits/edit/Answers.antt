use Rattle.restrictions.proofs.edits.edit.Goals as goal

pub returns-in-Ok-clause-lie : goal.returns-in-Ok-clause-lie
returns-in-Ok-clause-lie c = c.carry_out.ensures.lie c.args.length c.args.line.now c.in-Ok.ensures.on
