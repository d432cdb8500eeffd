use Rattle.std.proofs.Common.{SFits, w64}
use Rattle.std.proofs.lemmas.Int.{to_z-of_z}
use Rattle.run_rules.proofs.GridFacts.{value_at-least}
use Rattle.table_laws.proofs.Bands.least.Goals as goal

pub returns-clause-least : goal.returns-clause-least
returns-clause-least c =
    let fits : SFits w64 c.least_of.result = record { sfits = c.least_of.type_inv } in
    simp to_z-of_z (rw (← c.self.view_is) (λ u h. value_at-least c.self.inside.rows.items c.least_of.result u h (rw c.deref.ensures.value at c.least_of.ensures.each)))
