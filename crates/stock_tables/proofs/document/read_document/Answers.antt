use Rattle.std.proofs.Common.{inl, inr, refl, sym}
use Rattle.std.proofs.lemmas.Bool.{iff_false}
use Rattle.stock_tables.proofs.DocumentFacts.{document_of-some, document_of-none}
use Rattle.stock_tables.proofs.document.read_document.Goals as goal

pub returns-in-Ok : goal.returns-in-Ok
returns-in-Ok c = inr (sym (document_of-some _ _ c.in-Ok.ensures.ok.0 c.in-Ok.ensures.ok.1))

pub returns-then-is_memory : goal.returns-then-is_memory
returns-then-is_memory c = inl refl

pub returns-else-is_memory : goal.returns-else-is_memory
returns-else-is_memory c = inr (sym (document_of-none _ (c.in-Err.ensures.refused (iff_false c.is_memory.ensures c.if-is_memory.false))))
