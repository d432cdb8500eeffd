use Rattle.std.proofs.Common.{◌≡◌, ◌≤◌, arith, ap, None}
use Rattle.std.proofs.lemmas.List.Elements.{All-push, All-take}
use Rattle.allowances.proofs.CallFacts.{IsCallAt, IsCallAt-dwells, IsCallAt-none_later, IsCallAt-seconds, IsCallAt-up_to, seconds_before-small, seconds_before-start}
use Rattle.allowances.proofs.EndedFacts.{HaveEnded-later}
use Rattle.allowances.proofs.RowFacts.{rows-more}
use Rattle.allowances.specs.declared.progress.Progress.{Progress}
use Rattle.allowances.specs.Rows.{IsTimed, call_row, row_at}
use Rattle.allowances.specs.declared.RowKind.TheVariants.{Start}
use Rattle.allowances.proofs.run.Run.rows.Goals as goal

pub row_at-start-requires-clause-progress : goal.row_at-start-requires-clause-progress
row_at-start-requires-clause-progress g c =
    let start = seconds_before-start c.args.self.now.plan.now in
    let departs = ap (λ (p : Progress). p.seconds) c.start.ensures in
    record {
      seconds = omega (arith, c.to-progress.ensures.seconds, c.depart.ensures.depart);
      ended = c.to-progress.ensures.ended;
      ahead = c.to-progress.ensures.ahead;
    }

pub to-progress-requires-in-loop-index-clause-ended : goal.to-progress-requires-in-loop-index-clause-ended
to-progress-requires-in-loop-index-clause-ended g c =
    let plan = c.args.self.now.plan.now in
    let here : IsCallAt plan c.loop-index.index c.index-calls-index.result = record { within = rw c.calls-calls.ensures.calls at c.loop-index-test.true; is = rw c.calls-calls.ensures.calls at c.index-calls-index.is } in
    c.loop-index.invariant.ended c.index-calls-index.result.at (IsCallAt-none_later plan c.requires.plan c.loop-index.index c.index-calls-index.result here)

pub row_at-row-requires-clause-progress : goal.row_at-row-requires-clause-progress
row_at-row-requires-clause-progress g c =
    let plan = c.args.self.now.plan.now in
    let here : IsCallAt plan c.loop-index.index c.index-calls-index.result = record { within = rw c.calls-calls.ensures.calls at c.loop-index-test.true; is = rw c.calls-calls.ensures.calls at c.index-calls-index.is } in
    let before = IsCallAt-seconds plan c.requires.plan c.loop-index.index c.index-calls-index.result here c.args.self.now.length c.requires.whole.lies in
    record {
      seconds = omega (arith, before, c.to-progress-in-loop-index.ensures.seconds);
      ended = c.to-progress-in-loop-index.ensures.ended;
      ahead = c.to-progress-in-loop-index.ensures.ahead;
    }

pub behind-progress-requires : goal.behind-progress-requires
behind-progress-requires g c =
    let plan = c.args.self.now.plan.now in
    let here : IsCallAt plan c.loop-index.index c.index-calls-index.result = record { within = rw c.calls-calls.ensures.calls at c.loop-index-test.true; is = rw c.calls-calls.ensures.calls at c.index-calls-index.is } in
    let before = IsCallAt-seconds plan c.requires.plan c.loop-index.index c.index-calls-index.result here c.args.self.now.length c.requires.whole.lies in
    let small = seconds_before-small plan c.index-calls-index.result.at c.requires.plan in
    omega arith

pub loop-index-preserved : goal.loop-index-preserved
loop-index-preserved g c =
    let plan = c.args.self.now.plan.now in
    let call = c.index-calls-index.result in
    let here : IsCallAt plan c.loop-index.index c.index-calls-index.result = record { within = rw c.calls-calls.ensures.calls at c.loop-index-test.true; is = rw c.calls-calls.ensures.calls at c.index-calls-index.is } in
    let dwells = IsCallAt-dwells plan c.args.self.now.length c.loop-index.index call here in
    let behind = rw c.standing-kind.ensures.dwell at c.behind-progress.ensures.seconds in
    let row : c.row_at-row.result ≡ call_row plan c.args.self.now.e.now (c.loop-index.index, call) = cc in
    record {
      rows = rows-more plan c.args.self.now.e.now c.loop-index.index call (row_at plan c.args.self.now.e.now 0 Start 0 None) c.row_at-row.result c.loop-index.rows.items c.put-in-loop-index.new.rows.items here c.loop-index.invariant.rows row c.in_ok-put-2.ensures;
      timed = rw c.in_ok-put-2.ensures (All-push IsTimed c.loop-index.rows.items c.row_at-row.result c.loop-index.invariant.timed c.row_at-row.ensures.timed);
      seconds = omega (arith, behind, c.to-progress-in-loop-index.ensures.seconds);
      ended = λ i all.
          let last : call.at ≤ i = IsCallAt-up_to plan c.loop-index.index call here i all in
          rw (c.behind-progress.ensures.ended, c.behind-progress.ensures.added) (HaveEnded-later c.args.self.now.allowances.now call.at i c.to-progress-in-loop-index.result.ended c.to-progress-in-loop-index.result.added last c.to-progress-in-loop-index.ensures.ended);
      cost = omega arith;
      cost_most = omega arith;
    }

pub to-progress-requires-2-clause-ended : goal.to-progress-requires-2-clause-ended
to-progress-requires-2-clause-ended g c = c.loop-index.invariant.ended c.args.self.now.length (All-take (λ d. d.at ≤ c.args.self.now.length) c.loop-index.index c.args.self.now.plan.now.calls c.requires.whole.lies.calls)

pub returns-clause-timed : goal.returns-clause-timed
returns-clause-timed g c = rw c.in_ok-put-3.ensures (All-push IsTimed c.loop-index.rows.items c.row_at-end.result c.loop-index.invariant.timed c.row_at-end.ensures.timed)
