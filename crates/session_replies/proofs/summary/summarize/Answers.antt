use Rattle.std.proofs.Common.{◌+◌, length, arith, refl, subst, sym, ◌∙◌}
use Rattle.std.proofs.lemmas.Bool.{eqb-true}
use Rattle.std.proofs.lemmas.List.{nil_from_length}
use Rattle.restrictions.proofs.EditFacts.{lines_of-none}
use Rattle.restrictions.specs.Edits.{lines_of}
use Rattle.session_replies.proofs.SumFacts.{IsCounted, IsCounted-next, SumsUp-all, counts_one, fewer_stalls}
use Rattle.session_replies.specs.declared.summary.Tally.{Tally}
use Rattle.session_replies.proofs.summary.summarize.Goals as goal

pub loop-rest-preserved : goal.loop-rest-preserved
loop-rest-preserved g c =
    let first = c.args.session.now in
    let all = lines_of c.args.commands.now in
    let left = lines_of c.first_line-first.result.rest.now in
    let now = c.loop-rest in
    let given = c.answer.result in
    let before = rw c.first_line-first.ensures.lines at now.invariant.counted in
    let next = IsCounted-next first now.session c.answer.new.self all left c.first_line-first.result.line.now given now.count now.tally c.args.steps.now now.steps c.answer.new.steps before c.answer.ensures in
    record {
      counted = subst (λ (t : Tally). IsCounted first all left c.answer.new.self (now.count + 1) t c.args.steps.now c.answer.new.steps) (sym c.count.ensures) next;
      few = omega (arith, c.first_line-first.ensures.shorter, now.invariant.few);
      each = rw c.count.ensures (omega (arith, counts_one given now.tally, now.invariant.each));
      stalls = rw c.count.ensures (fewer_stalls given now.tally now.invariant.stalls);
    }

pub returns : goal.returns
returns g c =
    let now = c.loop-rest in
    let rest = now.rest.now in
    let none = nil_from_length rest (eqb-true (length rest) 0 (sym c.is_empty.ensures ∙ c.loop-rest-test.false)) in
    let counted = rw (none, lines_of-none) at now.invariant.counted in
    let last = c.last_point-last_point in
    SumsUp-all c.args.session.now now.session (lines_of c.args.commands.now) now.count (last.result + 1) now.tally last.result c.arrival.result c.args.steps.now now.steps c.arrival.new.steps counted
    last.ensures.last refl c.arrival.ensures.arrival c.arrival.ensures.cost
