use Rattle.run_rules.specs.Grids.{band_width}
use Rattle.table_laws.proofs.room_of.Goals as goal

pub returns-clause-room : goal.returns-clause-room
unfolding band_width
returns-clause-room c = cc
