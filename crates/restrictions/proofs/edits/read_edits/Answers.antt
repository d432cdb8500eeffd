use Rattle.std.proofs.Common.{◌≡◌, ◌+◌, Err, length, arith, inr, rules, sym, ◌∙◌}
use Rattle.std.proofs.lemmas.Bool.{eqb-true}
use Rattle.std.proofs.lemmas.List.{nil_from_length}
use Rattle.restrictions.specs.Edits.{lines_of}
use Rattle.restrictions.proofs.EditFacts.{edited-on, edited-stops, edited_by-none, lines_of-none}
use Rattle.restrictions.proofs.edits.read_edits.Goals as goal

pub returns-in_err-edit-clause-edits : goal.returns-in_err-edit-clause-edits
returns-in_err-edit-clause-edits c =
    let rest = lines_of c.first_line-first.result.rest.now in
    let stops = edited-stops c.args.length (c.loop-rest.place + 1) c.first_line-first.result.line.now rest c.loop-rest.force.pairs c.in_err-edit.field-0.0 c.in_err-edit.ensures.edited in
    let answer : c.from_residual.result ≡ Err c.in_err-edit.field-0.0 = search rules in
    rw (answer, ← c.loop-rest.invariant.left, c.first_line-first.ensures.lines) stops

pub loop-rest-preserved : goal.loop-rest-preserved
loop-rest-preserved c =
    let rest = lines_of c.first_line-first.result.rest.now in
    let on = edited-on c.args.length (c.loop-rest.place + 1) c.first_line-first.result.line.now rest c.loop-rest.force.pairs c.edit.new.force.pairs c.in_ok-edit.ensures.edited in
    record {
      left = sym on ∙ rw c.first_line-first.ensures.lines at c.loop-rest.invariant.left;
      places = omega (arith, c.first_line-first.ensures.shorter, c.loop-rest.invariant.places);
      lie = c.in_ok-edit.ensures.lie c.loop-rest.invariant.lie;
      force = rw (← c.force.view_is) c.force.invariant.force;
    }

pub returns-clause-edits : goal.returns-clause-edits
returns-clause-edits c =
    let rest = c.loop-rest.rest.now in
    let none = nil_from_length rest (eqb-true (length rest) 0 (sym c.is_empty.ensures ∙ c.loop-rest-test.false)) in
    let left = rw (none, lines_of-none) at c.loop-rest.invariant.left in
    inr (sym (edited_by-none c.args.length (c.loop-rest.place + 1) c.loop-rest.force.pairs) ∙ left)
