use Rattle.std.proofs.Common.{arith}
use Rattle.std.proofs.lemmas.List.{get_or_default}
use Rattle.certificate.proofs.ReadFacts.{read_as_cert-text}
use Rattle.certificate.proofs.RowFacts.{rows_below}
use Rattle.certificate.proofs.writing.write_cert.Goals as goal

pub returns-clause-ok : goal.returns-clause-ok
returns-clause-ok g c = rw (rows_below c.args.c.now c.args.e.now c.args.verdict c.requires) at c.write_rows.ensures.ok

pub returns-clause-failed : goal.returns-clause-failed
returns-clause-failed g c = rw (rows_below c.args.c.now c.args.e.now c.args.verdict c.requires) at c.write_rows.ensures.failed

pub returns-clause-read : goal.returns-clause-read
returns-clause-read g c =
    let c_fits = c.type_inv.c in
    let e_fits = c.type_inv.e in
    read_as_cert-text (record { c = c.args.c.now; e = c.args.e.now; verdict = c.args.verdict })
    (record {
      shorter = c.requires;
      braking = λ k d l. rw (get_or_default c.args.c.now k d 0 l) (omega (arith, c_fits k));
      speeds = λ k d l. rw (get_or_default c.args.e.now k d 0 l) (omega (arith, e_fits k));
      point = c.see_point.ensures;
    })
