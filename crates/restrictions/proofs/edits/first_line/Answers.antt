use Rattle.std.proofs.Common.{arith}
use Rattle.std.proofs.lemmas.List.{take_rest}
use Rattle.restrictions.proofs.EditFacts.{lines_of-first, lines_of-last}
use Rattle.restrictions.proofs.edits.first_line.Goals as goal

pub returns-then-end-text-clause-lines : goal.returns-then-end-text-clause-lines
returns-then-end-text-clause-lines c =
    rw c.without_cr-line.ensures (lines_of-last c.args.text.now c.len_before-end.result c.len_before-end.ensures.before (omega arith) c.requires)

pub returns-clause-lines : goal.returns-clause-lines
returns-clause-lines c =
    rw (c.without_cr-line.ensures, take_rest) (lines_of-first c.args.text.now c.len_before-end.result c.len_before-end.ensures.before (omega arith))
