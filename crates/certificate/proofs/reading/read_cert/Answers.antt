use Rattle.certificate.proofs.ReadFacts.{Gives-text, IfOk-text, IfOk-values}
use Rattle.certificate.proofs.reading.read_cert.Goals as goal

pub returns-clause-text : goal.returns-clause-text
returns-clause-text c = IfOk-text c.args.bytes.now c.read_lines.result c.read_lines.ensures

pub returns-clause-values : goal.returns-clause-values
returns-clause-values c = IfOk-values c.args.bytes.now c.read_lines.result c.read_lines.ensures

pub returns-clause-only : goal.returns-clause-only
returns-clause-only c x is same = Gives-text c.args.bytes.now c.read_lines.result x c.read_lines.ensures is same
