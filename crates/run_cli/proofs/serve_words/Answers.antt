use Rattle.std.proofs.Common.{arith, map, string_bytes, sym}
use Rattle.run_io.proofs.Written.{Writes-nil}
use Rattle.run_cli.specs.Forms.{meant_by}
use Rattle.run_cli.proofs.FormFacts.{words_silent}
use Rattle.run_cli.proofs.ServeFacts.{Serves-memory, Serves-usage}
use Rattle.run_cli.proofs.serve_words.Goals as goal

pub returns-in-Ok-None : goal.returns-in-Ok-None
returns-in-Ok-None g c =
    rw (sym c.in-Ok-None.ensures, c.in-Ok-None.field-0-is)
    (record {
      serves = Serves-usage (g.S.Shelf.told c.args.shelf.now) (g.I.Source.told c.args.input.now) (g.K.Sink.told c.args.out.now) (g.K.Sink.told c.refuse.new.out) c.args.steps.now c.refuse.result
          c.refuse.ensures;
      asks = omega arith;
    })

pub returns-in-Ok-Some : goal.returns-in-Ok-Some
returns-in-Ok-Some g c = rw (sym c.in-Ok-Some.ensures, c.in-Ok-Some.field-0-is) c.serve_request.ensures

pub returns-in-Err : goal.returns-in-Err
returns-in-Err g c =
    let words = map string_bytes c.args.words.now in
    record {
      serves = Serves-memory (meant_by words) (g.S.Shelf.told c.args.shelf.now) (g.S.Shelf.told c.args.shelf.now) (g.I.Source.told c.args.input.now) (g.K.Sink.told c.args.out.now)
          (g.K.Sink.told c.args.out.now) c.args.steps.now (words_silent words) (Writes-nil (g.K.Sink.told c.args.out.now));
      asks = omega arith;
    }
