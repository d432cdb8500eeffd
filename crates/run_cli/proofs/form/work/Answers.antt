use Rattle.std.proofs.Common.{arith, refl, Some, inl}
use Rattle.run_io.proofs.Written.{Writes-nil}
use Rattle.run_cli.specs.Forms.{meaning_of}
use Rattle.run_cli.proofs.ServeFacts.{Works-done, Works-short}
use Rattle.run_cli.proofs.form.work.Goals as goal

pub returns-in_default : goal.returns-in_default
returns-in_default g c =
    λ told at. record {
      ends = inl (refl, Writes-nil (g.K.Sink.told c.args.out.now));
      cost = g.F.Form.cost c.args.form.now c.args.tables;
      allowed = g.met.F.Form.allows c.args.form.now told c.args.tables at;
      steps = c.make.ensures.steps;
    }

pub returns-in-Ok-write : goal.returns-in-Ok-write
returns-in-Ok-write g c =
    λ told at. Works-done (meaning_of (Some (g.F.Form.request c.args.form.now))) told (g.K.Sink.told c.args.out.now) (g.K.Sink.told c.write.new.out) c.args.steps.now c.write.new.steps
    (g.F.Form.cost c.args.form.now c.args.tables) (g.F.Report.Report.ending c.in-Ok.report) c.status.result (g.F.Report.Report.text c.in-Ok.report) c.status.ensures
    (g.met.F.Form.means c.args.form.now told c.args.tables c.in-Ok.report at c.in-Ok.ensures.right) c.in-Ok-write.ensures.ok
    (g.met.F.Form.allows c.args.form.now told c.args.tables at) (omega (arith, c.in-Ok.ensures.left, c.write.ensures.steps))

pub returns : goal.returns
returns g c =
    λ told at. Works-short (meaning_of (Some (g.F.Form.request c.args.form.now))) told (g.K.Sink.told c.args.out.now) (g.K.Sink.told c.write.new.out) c.args.steps.now c.write.new.steps
    (g.F.Form.cost c.args.form.now c.args.tables) (g.F.Report.Report.ending c.in-Ok.report) (g.F.Report.Report.text c.in-Ok.report)
    (g.met.F.Form.means c.args.form.now told c.args.tables c.in-Ok.report at c.in-Ok.ensures.right) c.in-Err.ensures.failed c.in-Err.ensures.cause.failed
    (g.met.F.Form.allows c.args.form.now told c.args.tables at) (omega (arith, c.in-Ok.ensures.left, c.write.ensures.steps))
