use Rattle.record_rules.proofs.ReadFacts.{Reads}
use Rattle.record_rules.proofs.read_records.Given as goal

abbrev pub invariant-loop-done : goal.invariant-loop-done
invariant-loop-done g l = Reads (g.T.RecordReader.rule l.fn.reader) (g.T.RecordReader.says l.fn.reader l.reader) l.fn.bytes l.rows l.done
