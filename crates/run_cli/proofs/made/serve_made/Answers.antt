use Rattle.std.proofs.Common.{[], refl, subst}
use Rattle.made_cases.specs.Made.{MadeView, seen}
use Rattle.run_cli.proofs.GenFacts.{Works-fault, Works-summed}
use Rattle.run_cli.specs.Gen.{made_meaning}
use Rattle.run_cli.specs.Serves.{Works}
use Rattle.session_replies.specs.Cases.{case_of}
use Rattle.run_cli.proofs.made.serve_made.Goals as goal

pub returns-in-Ok-read_case : goal.returns-in-Ok-read_case
returns-in-Ok-read_case g c =
    λ told. let made = c.in-Ok.made in
    let case = c.in-Ok-read_case.case in
    let old = g.K.Sink.told c.args.out.now in
    let new = g.K.Sink.told c.sum_up.new.out in
    let is = rw (c.deref.ensures.value, c.deref-2.ensures.value, c.deref-3.ensures.value) at c.in-Ok-read_case.ensures.read in
    let sums = rw c.deref-in-Ok-read_case.ensures.value at c.sum_up.ensures in
    subst (λ (v : MadeView). Works (made_meaning v) told old new c.args.steps.now c.sum_up.new.steps c.sum_up.result) c.in-Ok.ensures
    (Works-summed (seen made) told (case_of case.line case.stock case.plan []) old new c.args.steps.now c.sum_up.new.steps c.sum_up.result (is, refl) sums)

pub returns : goal.returns
returns g c =
    λ told. let made = c.in-Ok.made in
    let old = g.K.Sink.told c.args.out.now in
    let new = g.K.Sink.told c.refuse.new.out in
    let stops = rw (c.deref.ensures.value, c.deref-2.ensures.value, c.deref-3.ensures.value) at c.in-Err.ensures.stops in
    subst (λ (v : MadeView). Works (made_meaning v) told old new c.args.steps.now c.args.steps.now c.refuse.result) c.in-Ok.ensures
    (Works-fault (seen made) told old new c.args.steps.now c.in-Err.status c.refuse.result stops c.refuse.ensures)
