-- What contracts see of the shelf, the source and the sink of the system.
use Rattle.std.specs.Prelude.{ℕ, List, Option, None}
use Rattle.run_io.specs.Fetches.{Files}
use Rattle.run_io.specs.Told.{Told}
use Rattle.run_io.specs.declared.host.HostShelf.{HostShelf}
use Rattle.run_io.specs.declared.host.HostSource.{HostSource}
use Rattle.run_io.specs.declared.host.HostSink.{HostSink}

-- such a shelf tells no files
abbrev pub host_shelf_told : {R F D : Type 0} → HostShelf R F D → Told Files
host_shelf_told s = record { holds = None; faults = s.faults }

-- such a source tells what its reader tells
abbrev pub host_source_told : {T : Type 0} → (T → Option (List ℕ)) → HostSource T → Told (List ℕ)
host_source_told remaining s = record { holds = remaining s.inner; faults = s.faults }

-- such a sink tells what its writer tells
abbrev pub host_sink_told : {W : Type 0} → (W → Option (List ℕ)) → HostSink W → Told (List ℕ)
host_sink_told contents s = record { holds = contents s.inner; faults = s.faults }
