-- The fault of a line file, by that of its records.
use Rattle.record_rules.specs.declared.RecordFault.{RecordFault}
use Rattle.record_rules.specs.declared.RecordFault.TheVariants as of_records
use Rattle.line_tables.specs.declared.LineFault.{LineFault}
use Rattle.line_tables.specs.declared.LineFault.TheVariants as fault

abbrev pub line_fault : RecordFault → LineFault
line_fault (of_records.Broken place rule) = fault.Bad place rule
line_fault of_records.Memory = fault.Memory
