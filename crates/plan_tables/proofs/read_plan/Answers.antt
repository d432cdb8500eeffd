use Rattle.std.proofs.Common.{◌≡◌, rules}
use Rattle.record_rules.specs.Records.{file_records}
use Rattle.plan_tables.specs.PlanFile.{draft_of}
use Rattle.plan_tables.proofs.FileFacts.{Gives-fault, Gives-plan}
use Rattle.plan_tables.proofs.read_plan.Goals as goal

pub returns-in_err-read_records-clause-plan : goal.returns-in_err-read_records-clause-plan
returns-in_err-read_records-clause-plan c =
    Gives-fault c.args.line.now c.args.bytes.now c.new-draft.result (c.read_records.new.reader ≡ draft_of c.new-draft.result.line (file_records c.args.bytes.now)) c.in_err-read_records.field-0.0
    c.from_residual.result c.new-draft.ensures (search rules) c.in_err-read_records.ensures

pub returns-clause-plan : goal.returns-clause-plan
returns-clause-plan c =
    rw c.finish.ensures
    (Gives-plan c.args.line.now c.args.bytes.now c.read_records.new.reader (rw c.new-draft.ensures at c.in_ok-read_records.ensures))
