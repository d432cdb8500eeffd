use Rattle.std.proofs.Common.{◌≤◌, ℕ, List, length}
use Rattle.run_io.specs.Told.{Told}
use Rattle.session_lines.specs.Feeding.{IsFed}
use Rattle.session_lines.proofs.session.feed.Given as goal

-- all but the rest is fed, whatever was before the piece
abbrev pub invariant-loop-end : goal.invariant-loop-end
invariant-loop-end g l =
    (length l.rest ≤ length l.piece)
    × g.R.Responder.law (g.R.Responder.stands l.responder)
    × (
    (first : g.R.Responder.State) (old : Told (List ℕ)) (before : ℕ) (bytes : List ℕ)
    → IsFed g.R.Responder.dialogue first old before bytes l.piece (g.R.Responder.stands l.fn.responder) l.fn.line (g.K.Sink.told l.fn.out) l.fn.steps
    → IsFed g.R.Responder.dialogue first old before bytes l.rest (g.R.Responder.stands l.responder) l.line (g.K.Sink.told l.out) l.steps
    )

abbrev pub decreases-loop-end : goal.decreases-loop-end
decreases-loop-end g l = length l.rest
