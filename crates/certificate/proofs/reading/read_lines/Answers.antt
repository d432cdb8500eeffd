use Rattle.std.proofs.Common.{◌≡◌, Err, sym, ◌∙◌, inr, rules}
use Rattle.certificate.proofs.ReadFacts.{read_as_cert-begins}
use Rattle.certificate.proofs.WalkFacts.{read_lines-ends, read_lines-on, read_lines-rest, read_lines-stops}
use Rattle.certificate.proofs.reading.read_lines.Goals as goal

pub loop-line-init : goal.loop-line-init
loop-line-init c = rw c.new-rows.ensures (read_as_cert-begins c.args.bytes.now)

pub returns-in_err-verdict : goal.returns-in_err-verdict
returns-in_err-verdict c =
    let line = c.in-Some.line in
    let stops = read_lines-stops c.loop-line.rows line.part.now line.rest.now c.in_err-verdict.field-0.0 c.in_err-verdict.ensures in
    let answer : c.from_residual.result ≡ Err c.in_err-verdict.field-0.0 = search rules in
    rw (answer, ← c.loop-line.invariant, c.in-Some.ensures.parts) stops

pub returns-in-Some-2 : goal.returns-in-Some-2
returns-in-Some-2 c =
    let line = c.in-Some.line in
    let given = rw c.in-Some-2.is at c.in_ok-verdict.ensures in
    let ends = read_lines-ends c.loop-line.rows c.add.new.self c.in-Some-2.verdict line.part.now line.rest.now given in
    inr (c.finish.ensures ∙ sym ends ∙ rw c.in-Some.ensures.parts at c.loop-line.invariant)

pub loop-line-preserved : goal.loop-line-preserved
loop-line-preserved c =
    let line = c.in-Some.line in
    let given = rw c.in_default-2.is at c.in_ok-verdict.ensures in
    let on = read_lines-on c.loop-line.rows c.add.new.self line.part.now line.rest.now given in
    c.in_ok-rest.ensures.reads ∙ sym on ∙ rw c.in-Some.ensures.parts at c.loop-line.invariant

pub returns : goal.returns
returns c =
    let rest = read_lines-rest c.loop-line.rows c.loop-line.rest.now in
    inr (rw (c.bad.ensures, c.rule_of_rest.ensures) (sym rest ∙ rw c.in_default.ensures.parts at c.loop-line.invariant))
