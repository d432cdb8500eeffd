use Rattle.table_laws.proofs.LawFacts.{value_at-keeps}
use Rattle.table_laws.proofs.Bands.law.Goals as goal

pub returns-clause-between : goal.returns-clause-between
returns-clause-between c = rw (← c.self.view_is) (value_at-keeps _ _ c.self.invariant.lawful)
