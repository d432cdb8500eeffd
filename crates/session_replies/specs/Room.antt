-- What a session keeps.
use Rattle.std.specs.Prelude.{◌+◌, ◌<◌, length}
use Rattle.incr_envelope.specs.Envelope.{EnvelopeView, IsFromScratch}
use Rattle.restrictions.specs.Force.{most_in_force}

-- its envelope is as from scratch; and with those that can be put with no more memory, the restrictions in force are more than
-- may be
pub record HasRoom (e : EnvelopeView) : Type 0 where
  pub scratch : IsFromScratch e
  pub room : most_in_force < length e.force + e.spare
