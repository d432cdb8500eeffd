use Rattle.std.proofs.Common.{refl, Err, None}
use Rattle.run_words.specs.Requests.{case_names}
use Rattle.run_cli.specs.Session.{session_meaning}
use Rattle.run_cli.proofs.ServeFacts.{Serves-refused}
use Rattle.run_cli.proofs.SessionFacts.{Serves-held, session_silent}
use Rattle.run_cli.proofs.session.serve_session.Goals as goal

pub returns-in-Ok : goal.returns-in-Ok
returns-in-Ok g c =
    let form = c.args.form.now in
    record {
      serves = Serves-held form.line.now form.stock.now form.plan.now (g.S.Shelf.told c.args.shelf.now) (g.S.Shelf.told c.load_case.new.shelf) (g.I.Source.told c.args.input.now) (g.I.Source.told c.hold.new.input)
          (g.K.Sink.told c.args.out.now) (g.K.Sink.told c.hold.new.out) c.args.steps.now c.hold.new.steps c.in-Ok.case c.hold.result c.in-Ok.ensures.loads c.in-Ok.ensures.case c.hold.ensures;
      asks = c.in-Ok.ensures.asks;
    }

pub returns-in-Err : goal.returns-in-Err
returns-in-Err g c =
    let form = c.args.form.now in
    let names = case_names form.line.now form.stock.now form.plan.now None in
    record {
      serves = Serves-refused (session_meaning names) (g.S.Shelf.told c.args.shelf.now) (g.S.Shelf.told c.load_case.new.shelf) (g.I.Source.told c.args.input.now) (g.K.Sink.told c.args.out.now)
          (g.K.Sink.told c.refuse.new.out) c.args.steps.now c.in-Err.status c.refuse.result (Err c.in-Err.status) refl (session_silent names) c.in-Err.ensures.loads c.refuse.ensures;
      asks = c.in-Err.ensures.asks;
    }
