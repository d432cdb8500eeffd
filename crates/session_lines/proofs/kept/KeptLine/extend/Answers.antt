use Rattle.session_lines.proofs.KeptFacts.{extended}
use Rattle.session_lines.proofs.kept.KeptLine.extend.Goals as goal

pub returns : goal.returns
returns c = extended _ _ _ _ _ _ _ c.self.told c.self.invariant c.self.view_is c.min-count.ensures c.copy_from_slice.ensures.after
