use Rattle.std.proofs.Common.{◌+◌, arith, length-drop, sym}
use Rattle.std.proofs.lemmas.List.{take_rest}
use Rattle.session_lines.proofs.FeedFacts.{fed_line, fed_rest, fed_stop}
use Rattle.session_lines.proofs.session.feed.Goals as goal

pub returns-in_default : goal.returns-in_default
returns-in_default g c =
    let none = sym c.in_default.ensures.found in
    record {
      feeds = λ first old before bytes lawful f.
          rw c.extend.ensures (fed_rest g.R.Responder.dialogue first old before bytes c.loop-end.rest.now _ c.loop-end.line _ _ none (c.loop-end.invariant.2 first old before bytes f));
    }

pub returns-in-Err : goal.returns-in-Err
returns-in-Err g c =
    let responds = rw (c.without_cr.ensures, c.bytes.ensures, c.extend-in-loop-end.ensures, c.in-Err.is) at c.respond.ensures in
    record {
      feeds = λ first old before bytes lawful f.
          fed_stop g.R.Responder.dialogue g.R.Responder.law g.met.R.Responder.lawful first old before bytes c.loop-end.rest.now _ _ c.loop-end.line _ _ _ _ c.in-Some.end c.in-Err.stop lawful (sym c.in-Some.ensures.found) responds (c.loop-end.invariant.2 first old before bytes f);
    }

pub loop-end-preserved : goal.loop-end-preserved
loop-end-preserved g c =
    let responds = rw (c.without_cr.ensures, c.bytes.ensures, c.extend-in-loop-end.ensures, c.in-Ok.is) at c.respond.ensures in (
      rw take_rest (omega (arith, c.loop-end.invariant.0, length-drop (c.in-Some.end + 1) c.loop-end.rest.now)),
      rw responds.outcome.0 (g.met.R.Responder.lawful.stays _ _ c.loop-end.invariant.1),
      λ first old before bytes f. rw (take_rest, c.clear.ensures)
          (fed_line g.R.Responder.dialogue g.R.Responder.law g.met.R.Responder.lawful first old before bytes c.loop-end.rest.now _ _ c.loop-end.line _ _ _ _ c.in-Some.end (sym c.in-Some.ensures.found) responds (c.loop-end.invariant.2 first old before bytes f)),
    )
