-- The exit status of the process.
use Rattle.std.specs.Prelude.{ℕ}
use Rattle.run_files.specs.declared.status.Status.{Status}
use Rattle.run_files.specs.declared.status.Status.TheVariants.{Done, Memory, Usage, ReadFault, WriteFault, Refused, Stalled, NotValid, TooLong}

-- the exit status by which each status is told
abbrev pub exit_of : Status → ℕ
exit_of Done = 0
exit_of Memory = 1
exit_of Usage = 2
exit_of ReadFault = 3
exit_of WriteFault = 4
exit_of (Refused file place rule) = 5
exit_of (Stalled point) = 6
exit_of (NotValid rule point) = 7
exit_of (TooLong file) = 8
