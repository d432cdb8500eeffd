use Rattle.std.proofs.Common.{◌++◌, codes}
use Rattle.certificate.specs.Texts.{full_row}
use Rattle.certificate.proofs.AheadFacts.{front_is, row_is}
use Rattle.certificate.proofs.rows.row_ahead.Goals as goal

pub returns-clause-row : goal.returns-clause-row
returns-clause-row c =
    let row = row_is c.in_ok-c.c.number c.in_ok-e.e.number c.args.text.now c.in_ok-c.c.rest.now c.in_ok-e.e.rest.now c.in_ok-c.ensures.numeral c.in_ok-e.ensures.numeral in
    front_is c.args.text.now (full_row c.in_ok-c.c.number c.in_ok-e.e.number ++ codes "\n") c.in_ok-e.e.rest.now row

pub returns-clause-split : goal.returns-clause-split
returns-clause-split c =
    let row = row_is c.in_ok-c.c.number c.in_ok-e.e.number c.args.text.now c.in_ok-c.c.rest.now c.in_ok-e.e.rest.now c.in_ok-c.ensures.numeral c.in_ok-e.ensures.numeral in
    rw (front_is c.args.text.now (full_row c.in_ok-c.c.number c.in_ok-e.e.number ++ codes "\n") c.in_ok-e.e.rest.now row) row
