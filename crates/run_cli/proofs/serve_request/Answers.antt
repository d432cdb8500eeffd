use Rattle.std.proofs.Common.{arith, refl}
use Rattle.made_cases.specs.Made.{made_case}
use Rattle.run_cli.proofs.GenFacts.{made_alone}
use Rattle.run_cli.proofs.ServeFacts.{Serves-served}
use Rattle.run_cli.specs.Gen.{gen_meaning}
use Rattle.run_cli.proofs.serve_request.Goals as goal

pub returns-in-Caps : goal.returns-in-Caps
returns-in-Caps g c = rw c.in-Caps.is c.serve.ensures

pub returns-in-Stock : goal.returns-in-Stock
returns-in-Stock g c = rw c.in-Stock.is c.serve-in-Stock.ensures

pub returns-in-Rise : goal.returns-in-Rise
returns-in-Rise g c = rw c.in-Rise.is c.serve-in-Rise.ensures

pub returns-in-Brakes : goal.returns-in-Brakes
returns-in-Brakes g c = rw c.in-Brakes.is c.serve-in-Brakes.ensures

pub returns-in-Envelope : goal.returns-in-Envelope
returns-in-Envelope g c = rw c.in-Envelope.is c.serve-in-Envelope.ensures

pub returns-in-Plan : goal.returns-in-Plan
returns-in-Plan g c = rw c.in-Plan.is c.serve-in-Plan.ensures

pub returns-in-Check : goal.returns-in-Check
returns-in-Check g c = rw c.in-Check.is c.serve-in-Check.ensures

pub returns-in-Session : goal.returns-in-Session
returns-in-Session g c = rw c.in-Session.is c.serve_session.ensures

pub returns-in-Gen : goal.returns-in-Gen
returns-in-Gen g c =
    let number = c.in-Gen.form.number in
    let shelf = g.S.Shelf.told c.args.shelf.now in
    rw c.in-Gen.is (record {
      serves = Serves-served (gen_meaning number) shelf (g.I.Source.told c.args.input.now) (g.K.Sink.told c.args.out.now) (g.K.Sink.told c.serve_made.new.out) c.args.steps.now c.serve_made.new.steps c.serve_made.result
          (made_alone (made_case number)) refl (c.serve_made.ensures shelf.holds);
      asks = omega arith;
    })
