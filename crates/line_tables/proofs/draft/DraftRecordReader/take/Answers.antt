use Rattle.csv.specs.Records.{fields_of}
use Rattle.record_rules.proofs.SaidFacts.{TakesOne-draft}
use Rattle.line_tables.specs.LineFile.{draft_of, rule_after, with_record}
use Rattle.line_tables.proofs.FileFacts.{draft_of-push}
use Rattle.line_tables.proofs.draft.DraftRecordReader.take.Goals as goal

pub returns : goal.returns
returns c begun before said =
    TakesOne-draft rule_after with_record draft_of draft_of-push c.args.self.now c.take_record.new.self before (fields_of c.args.row.now) c.take_record.result said c.take_record.ensures
