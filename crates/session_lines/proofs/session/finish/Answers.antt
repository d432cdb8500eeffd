use Rattle.std.proofs.Common.{◌≡◌, ◌<◌, arith, length}
use Rattle.session_lines.proofs.FeedFacts.{fed_all, fed_last}
use Rattle.session_lines.proofs.session.finish.Goals as goal

pub returns-then-is_empty : goal.returns-then-is_empty
returns-then-is_empty g c =
    let none : length c.args.line.now ≡ 0 = grind arith in
    record { finishes = λ first old before bytes f. fed_all g.R.Responder.dialogue first old before bytes _ c.args.line.now _ _ none f }

pub returns : goal.returns
returns g c =
    let some : 0 < length c.args.line.now = grind arith in
    let responds = rw (c.without_cr.ensures, c.bytes-line.ensures) at c.respond.ensures in
    record {
      finishes = λ first old before bytes f.
          fed_last g.R.Responder.dialogue g.R.Responder.law g.met.R.Responder.lawful first old before bytes _ _ c.args.line.now _ _ _ _ c.respond.result some responds f;
    }
