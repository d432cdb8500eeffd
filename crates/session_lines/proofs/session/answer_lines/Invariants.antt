use Rattle.std.proofs.Common.{◌≡◌, ◌+◌, ◌≤◌, List, ℕ, [], length}
use Rattle.std.specs.Io.KnownBytes.{Consumes}
use Rattle.unit_rules.specs.Limits.{most_bytes}
use Rattle.session_lines.specs.Feeding.{IsFed}
use Rattle.session_lines.proofs.session.answer_lines.Given as goal

-- the bytes taken are fed, and with the room that is left they are as many as there may be
abbrev pub invariant-loop-count : goal.invariant-loop-count
invariant-loop-count g l = record {
  taken : List ℕ;
  room : length taken + l.room ≡ most_bytes;
  took : Consumes (g.I.Source.told l.fn.input).holds (g.I.Source.told l.input).holds taken;
  later : (g.I.Source.told l.fn.input).faults ≤ (g.I.Source.told l.input).faults;
  law : g.R.Responder.law (g.R.Responder.stands l.responder);
  fed : IsFed g.R.Responder.dialogue (g.R.Responder.stands l.fn.responder) (g.K.Sink.told l.fn.out) l.fn.steps taken [] (g.R.Responder.stands l.responder) l.line (g.K.Sink.told l.out) l.steps;
}

abbrev pub decreases-loop-count : goal.decreases-loop-count
decreases-loop-count g l = l.room
