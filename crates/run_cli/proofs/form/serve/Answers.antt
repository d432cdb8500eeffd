use Rattle.std.proofs.Common.{refl, Some, Err}
use Rattle.run_cli.specs.Forms.{meaning_of}
use Rattle.run_cli.proofs.ServeFacts.{Serves-refused, Serves-worked}
use Rattle.run_cli.proofs.form.serve.Goals as goal

pub returns-in-Ok : goal.returns-in-Ok
returns-in-Ok g c = record {
  serves =
      Serves-worked (meaning_of (Some (g.F.Form.request c.args.form.now))) (g.S.Shelf.told c.args.shelf.now) (g.S.Shelf.told c.load.new.shelf)
      (g.I.Source.told c.args._input.now) (g.K.Sink.told c.args.out.now)
      (g.K.Sink.told c.work.new.out) c.args.steps.now c.work.new.steps c.work.result c.in-Ok.tables (g.met.F.Form.files_alone c.args.form.now) c.in-Ok.ensures.loads
      (c.work.ensures (g.S.Shelf.told c.args.shelf.now).holds c.in-Ok.ensures.are);
  asks = c.in-Ok.ensures.asks;
}

pub returns-in-Err : goal.returns-in-Err
returns-in-Err g c = record {
  serves =
      Serves-refused (meaning_of (Some (g.F.Form.request c.args.form.now))) (g.S.Shelf.told c.args.shelf.now) (g.S.Shelf.told c.load.new.shelf)
      (g.I.Source.told c.args._input.now) (g.K.Sink.told c.args.out.now)
      (g.K.Sink.told c.refuse.new.out) c.args.steps.now c.in-Err.status c.refuse.result (Err c.in-Err.status) refl (g.met.F.Form.files_alone c.args.form.now).quiet c.in-Err.ensures.loads
      c.refuse.ensures;
  asks = c.in-Err.ensures.asks;
}
