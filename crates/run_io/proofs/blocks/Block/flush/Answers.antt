use Rattle.std.proofs.Common.{rules}
use Rattle.std.proofs.lemmas.List.{drop_all}
use Rattle.run_io.proofs.blocks.Block.flush.Goals as goal

pub returns-clause-empty : goal.returns-clause-empty
returns-clause-empty g c = drop_all 65536 c.self.inside.bytes (search rules)
