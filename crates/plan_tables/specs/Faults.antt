-- The fault of a plan file, by that of its records.
use Rattle.record_rules.specs.declared.RecordFault.{RecordFault}
use Rattle.record_rules.specs.declared.RecordFault.TheVariants as of_records
use Rattle.plan_tables.specs.declared.PlanFault.{PlanFault}
use Rattle.plan_tables.specs.declared.PlanFault.TheVariants as fault

abbrev pub plan_fault : RecordFault → PlanFault
plan_fault (of_records.Broken place rule) = fault.Bad place rule
plan_fault of_records.Memory = fault.Memory
