use Rattle.std.proofs.Common.{◌≡◌, length}
use Rattle.certificate.specs.Lines.{parts_of}
use Rattle.certificate.specs.Reading.{read_as_cert}
use Rattle.certificate.specs.Walk.{read_lines}
use Rattle.certificate.proofs.reading.read_lines.Given as goal

-- what the lines that are left read as, behind the rows so far, is what all lines read as
abbrev pub invariant-loop-line : goal.invariant-loop-line
invariant-loop-line l = read_lines l.rows (parts_of l.rest) ≡ read_as_cert l.bytes

abbrev pub decreases-loop-line : goal.decreases-loop-line
decreases-loop-line l = length l.rest
