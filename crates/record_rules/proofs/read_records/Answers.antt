use Rattle.std.proofs.Common.{◌∙◌, arith}
use Rattle.csv.specs.Records.{fields_of}
use Rattle.record_rules.proofs.ReadFacts.{Reads-broken, Reads-end, Reads-few, Reads-more, Reads-start}
use Rattle.record_rules.proofs.read_records.Goals as goal

pub loop-done-init : goal.loop-done-init
loop-done-init g c =
    let fr = c.from_reader-rows.ensures in
    let f = c.flexible.ensures in
    let h = c.has_headers.ensures in
    Reads-start (g.T.RecordReader.rule c.args.reader.now) (g.T.RecordReader.says c.args.reader.now c.args.reader.now) c.args.bytes.now c.from_reader-rows.result
    (rw (f, h) at fr.trim ∙ c.new.ensures.trim) (rw (f, h) at fr.has_headers) fr.headers (rw (f, h) at fr.config ∙ c.new.ensures.config) fr.source fr.state c.requires

pub returns-in-Ok-false : goal.returns-in-Ok-false
returns-in-Ok-false g c =
    let inv = c.loop-done.invariant in
    Reads-end (g.T.RecordReader.rule c.args.reader.now) (g.T.RecordReader.says c.args.reader.now c.loop-done.reader) c.args.bytes.now c.loop-done.rows c.read_byte_record.new.self c.loop-done.done
    (fields_of c.read_byte_record.new.row) inv c.in-Ok-false.field-0 c.in-Ok-false.field-0-test (c.in-Ok-false.ensures.reads inv.plain inv.ready)

pub returns-in-Err-Broken : goal.returns-in-Err-Broken
returns-in-Err-Broken g c =
    let inv = c.loop-done.invariant in
    let broken = rw c.in-Err-Broken.field-0-is at (c.in-Err-Broken.ensures c.args.reader.now inv.rows inv.said) in
    let k = c.in-Err-Broken.rule-is in
    rw k (Reads-broken (g.T.RecordReader.rule c.args.reader.now) (g.T.RecordReader.says c.args.reader.now c.loop-done.reader) c.args.bytes.now c.loop-done.rows c.read_byte_record.new.self c.loop-done.done
    (fields_of c.read_byte_record.new.row) c.in-Err-Broken.rule inv c.in-Ok-true.field-0 c.in-Ok-true.field-0-test (c.in-Ok-true.ensures.reads inv.plain inv.ready) broken)

pub loop-done-preserved : goal.loop-done-preserved
loop-done-preserved g c =
    let inv = c.loop-done.invariant in
    let taken = c.in-Ok.ensures c.args.reader.now inv.rows inv.said in
    Reads-more (g.T.RecordReader.rule c.args.reader.now) (g.T.RecordReader.says c.args.reader.now c.loop-done.reader) (g.T.RecordReader.says c.args.reader.now c.take.new.self) c.args.bytes.now c.loop-done.rows
    c.read_byte_record.new.self c.loop-done.done (fields_of c.read_byte_record.new.row) inv c.in-Ok-true.field-0 c.in-Ok-true.field-0-test
    (c.in-Ok-true.ensures.reads inv.plain inv.ready) (c.in-Ok-true.ensures.ready inv.plain) taken.0 taken.1

pub unreachable-requires : goal.unreachable-requires
unreachable-requires g c =
    let few = Reads-few (g.T.RecordReader.rule c.args.reader.now) (g.T.RecordReader.says c.args.reader.now c.loop-done.reader) c.args.bytes.now c.loop-done.rows c.loop-done.done c.loop-done.invariant in
    omega (arith, few, c.loop-done-test.false)
