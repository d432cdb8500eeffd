use Rattle.stock_tables.proofs.ElementFacts.{elements-array}
use Rattle.stock_tables.proofs.document.elements.Goals as goal

pub returns-in-Some : goal.returns-in-Some
returns-in-Some c = rw c.as_slice.ensures.value (elements-array _ _ c.in-Some.ensures)
