use Rattle.std.proofs.Common.{sym}
use Rattle.std.specs.List.{slice_split}
use Rattle.certificate.specs.Lines.{is_space}
use Rattle.certificate.proofs.LineFacts.{line_of-more}
use Rattle.certificate.proofs.lines.line_of.Goals as goal

pub returns-in-Some-part_before : goal.returns-in-Some-part_before
returns-in-Some-part_before c =
    let first = c.in-Some.first in
    let second = c.in-Some-part_before._second in
    sym (line_of-more c.args.line.now first.part.now second.part.now second.rest.now (slice_split is_space first.rest.now) c.in-Some.ensures.parts c.in-Some-part_before.ensures.parts)
