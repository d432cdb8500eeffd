use Rattle.std.proofs.Common.{◌≡◌, ◌+◌, ◌-◌, ◌*◌, arith}
use Rattle.run_io.proofs.ErrFacts.{OnErr-always}
use Rattle.run_io.proofs.TextFacts.{Writes-lines, WritesFront-lines}
use Rattle.run_io.proofs.rows.write_rows.Goals as goal

pub returns-in_err-flush-clause-failed : goal.returns-in_err-flush-clause-failed
returns-in_err-flush-clause-failed g c =
    let from = c.loop-from.from in
    let n = c.min.result in
    let same : from + n - from ≡ n = omega arith in
    OnErr-always c.from_residual.result (WritesFront-lines (g.R.Rows.text c.args.rows.now) from n c.args.count
    (g.K.Sink.told c.args.out.now) (g.K.Sink.told c.loop-from.out) (g.K.Sink.told c.flush.new.out) (omega arith) c.loop-from.invariant.gone
    (rw (c.put_rows.ensures.text, same) at c.in_err-flush.ensures.failed))

pub returns-in_err-flush-clause-counts : goal.returns-in_err-flush-clause-counts
returns-in_err-flush-clause-counts g c =
    let cost = g.R.Rows.cost in
    let from = c.loop-from.from in
    let n = c.min.result in
    let rest = c.args.count - (from + n) in
    let same : from + n - from ≡ n = omega arith in
    let all : from + (n + rest) ≡ c.args.count = omega arith in
    let parts : cost * (from + (n + rest)) ≡ cost * from + (cost * n + cost * rest) = grind arith in
    let gone = rw same at c.put_rows.ensures.counts in
    rw (← all) (omega (arith, gone, c.loop-from.invariant.counts, parts))

pub loop-from-preserved : goal.loop-from-preserved
loop-from-preserved g c =
    let cost = g.R.Rows.cost in
    let from = c.loop-from.from in
    let n = c.min.result in
    let same : from + n - from ≡ n = omega arith in
    let parts : cost * (from + n) ≡ cost * from + cost * n = grind arith in
    let gone = rw same at c.put_rows.ensures.counts in
    let cause = c.in_ok-flush.ensures.cause in
    record {
      within = omega arith;
      empty = c.in_ok-flush.ensures.empty;
      gone = Writes-lines (g.R.Rows.text c.args.rows.now) from n (g.K.Sink.told c.args.out.now) (g.K.Sink.told c.loop-from.out) (g.K.Sink.told c.flush.new.out)
          c.loop-from.invariant.gone (rw (c.put_rows.ensures.text, same) at c.in_ok-flush.ensures.ok);
      later = omega (arith, c.loop-from.invariant.later, cause.later);
      counts = omega (arith, gone, c.loop-from.invariant.counts, parts);
    }
