use Rattle.restrictions.proofs.commands.read_command.Goals as goal

pub returns-then-eq-3-clause-on : goal.returns-then-eq-3-clause-on
returns-then-eq-3-clause-on c = c.read_time.ensures.on c.args.length
