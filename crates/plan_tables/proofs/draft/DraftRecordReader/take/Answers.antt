use Rattle.csv.specs.Records.{fields_of}
use Rattle.record_rules.proofs.SaidFacts.{TakesOne-draft}
use Rattle.plan_tables.specs.PlanFile.{draft_of, rule_after, with_record}
use Rattle.plan_tables.proofs.FileFacts.{draft_of-push}
use Rattle.plan_tables.proofs.draft.DraftRecordReader.take.Goals as goal

pub returns : goal.returns
returns c begun before said =
    TakesOne-draft rule_after with_record (draft_of begun.line) (draft_of-push begun.line) c.args.self.now c.take_record.new.self before (fields_of c.args.row.now) c.take_record.result said c.take_record.ensures
