use Rattle.std.proofs.Common.{◌≡◌, ◌*◌, ℕ, ◌-◌, ◌+◌, List, ◌++◌, arith, ap, sym, ◌∙◌}
use Rattle.run_io.proofs.TextFacts.{lines_from-before}
use Rattle.run_io.proofs.rows.put_rows.Goals as goal

pub loop-place-preserved : goal.loop-place-preserved
loop-place-preserved g c =
    let place = c.loop-place.place - 1 in
    let text = g.R.Rows.text c.args.rows.now in
    let n = c.args.to - c.loop-place.place in
    let next : place + 1 ≡ c.loop-place.place = omega (arith, c.loop-place-test.true) in
    let long : c.args.to - place ≡ n + 1 = omega (arith, c.loop-place-test.true) in
    let before = rw next at (lines_from-before text place n (c.args.to - place) long) in
    let more : g.R.Rows.cost * (n + 1) ≡ g.R.Rows.cost * n + g.R.Rows.cost = grind arith in
    record {
      least = omega (arith, c.loop-place-test.true);
      text = c.put.ensures.text ∙ ap (λ (q : List ℕ). text place ++ q) c.loop-place.invariant.text ∙ sym before;
      short = omega (arith, c.put.ensures.short, c.loop-place.invariant.short, c.loop-place-test.true);
      counts = rw long (omega (arith, c.put.ensures.counts, c.loop-place.invariant.counts, more));
    }
