use Rattle.std.proofs.Common.{length}
use Rattle.limit_profile.proofs.pieces.+zoned_pieces.Given as goal

-- proposed from what the function passes where it calls itself
abbrev pub decreases-zoned_pieces : goal.decreases-zoned_pieces
decreases-zoned_pieces l = length l.zones.now
