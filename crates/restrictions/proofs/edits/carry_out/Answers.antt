use Rattle.unit_rules.specs.Zone.{LiesOn}
use Rattle.restrictions.proofs.EditFacts.{All-put, All-take}
use Rattle.restrictions.proofs.edits.carry_out.Goals as goal

pub returns-in-Ok-clause-lie : goal.returns-in-Ok-clause-lie
returns-in-Ok-clause-lie c metres line on old =
    All-put (LiesOn metres) c.in-Put.id c.in-Put.zone c.args.force.now.pairs c.put.new.self.pairs c.in-Ok.ensures.put (rw c.in-Put.is at on) old

pub returns-in-Ok-take-clause-lie : goal.returns-in-Ok-take-clause-lie
returns-in-Ok-take-clause-lie c metres line on old =
    rw (c.in-Ok-take.ensures.taken.1) (All-take (LiesOn metres) c.in-Take.id c.args.force.now.pairs old)
