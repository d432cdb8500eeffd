use Rattle.std.proofs.Common.{◌≡◌, ◌<◌, ◌≤◌, ◌++◌, List, ℕ, [], append-nil, arith, drop, length, length-drop, length-take, refl, subst, sym, take}
use Rattle.std.specs.Io.KnownBytes.{Consumes}
use Rattle.std.proofs.KnownBytes.{Consumes-kept, Consumes-nil, Consumes-trans}
use Rattle.unit_rules.specs.Limits.{most_bytes}
use Rattle.session_lines.proofs.AnswerFacts.{Rose-after}
use Rattle.session_lines.proofs.FeedFacts.{fed_before, fed_law, fed_none, fed_whole}
use Rattle.session_lines.proofs.HoldFacts.{Consumes-none, held_done, held_last, held_long, held_read, held_stop, read_length, within_read}
use Rattle.session_lines.proofs.session.answer_lines.Goals as goal

pub loop-count-init : goal.loop-count-init
loop-count-init g c = record {
  taken = [];
  room = refl;
  took = Consumes-nil (g.I.Source.told c.args.input.now).holds;
  later = omega arith;
  law = c.requires;
  fed = rw c.new-line.ensures (fed_none g.R.Responder.dialogue (g.R.Responder.stands c.args.responder.now) (g.K.Sink.told c.args.out.now) c.args.steps.now);
}

pub returns-in-Err : goal.returns-in-Err
returns-in-Err g c =
    let inv = c.loop-count.invariant in
    let took = Consumes-kept _ _ _ inv.taken inv.took c.in-Err.ensures.bytes in
    held_read g.R.Responder.dialogue g.R.Responder.law g.met.R.Responder.lawful _ _ _ _ _ _ _ inv.taken inv.taken [] took
    (omega (arith, inv.later, c.in-Err.ensures.cause.later)) (sym (append-nil inv.taken)) (omega (arith, inv.room)) c.requires refl
    (Rose-after (g.I.Source.told c.args.input.now) (g.I.Source.told c.loop-count.input) (g.I.Source.told c.read.new.self) inv.later c.in-Err.ensures.cause.failed) (fed_whole g.R.Responder.dialogue _ _ _ inv.taken _ _ _ _ inv.fed)

pub returns-in-Ok-finish : goal.returns-in-Ok-finish
returns-in-Ok-finish g c =
    let inv = c.loop-count.invariant in
    let some : 0 < length c.read.new.buf = omega arith in
    let took = Consumes-none _ _ _ inv.taken inv.took (rw c.if-count-eq0.true at c.in-Ok.ensures.bytes.0) in
    held_done g.R.Responder.dialogue g.R.Responder.law g.met.R.Responder.lawful _ _ _ _ _ _ _ inv.taken took
    (omega (arith, inv.later, c.in-Ok.ensures.cause.later)) (omega (arith, inv.room)) (c.in-Ok.ensures.bytes.1 c.if-count-eq0.true some)
    (c.in-Ok-finish.ensures.finishes _ _ _ inv.taken inv.fed)

pub returns-in-Err-finish : goal.returns-in-Err-finish
returns-in-Err-finish g c =
    let inv = c.loop-count.invariant in
    let some : 0 < length c.read.new.buf = omega arith in
    let took = Consumes-none _ _ _ inv.taken inv.took (rw c.if-count-eq0.true at c.in-Ok.ensures.bytes.0) in
    rw c.ending_of.ensures
    (held_last g.R.Responder.dialogue g.R.Responder.law g.met.R.Responder.lawful _ _ _ _ _ _ _ inv.taken c.in-Err-finish.stop took
    (omega (arith, inv.later, c.in-Ok.ensures.cause.later)) (omega (arith, inv.room)) (c.in-Ok.ensures.bytes.1 c.if-count-eq0.true some)
    (c.in-Err-finish.ensures.finishes _ _ _ inv.taken inv.fed))

pub returns-in-Err-feed : goal.returns-in-Err-feed
returns-in-Err-feed g c =
    let inv = c.loop-count.invariant in
    let buf = c.read.new.buf in
    let fits = c.min-fits.result in
    let count = c.in-Ok.count in
    let piece : List ℕ = take fits buf in
    let bound : count ≤ length buf = c.in-Ok.ensures.bound.0 in
    let most : length (inv.taken ++ piece) ≤ most_bytes = omega (arith, inv.room, c.min-fits.ensures, read_length inv.taken buf fits (omega arith)) in
    let took = Consumes-trans _ _ _ inv.taken (take count buf) inv.took c.in-Ok.ensures.bytes.0 in
    rw c.ending_of-in-Err-feed.ensures
    (held_stop g.R.Responder.dialogue g.R.Responder.law g.met.R.Responder.lawful _ _ _ _ _ _ _ (inv.taken ++ take count buf) (inv.taken ++ piece) (drop fits (take count buf)) took
    (omega (arith, inv.later, c.in-Ok.ensures.cause.later)) (within_read inv.taken buf fits count (omega arith)) most c.requires c.in-Err-feed.stop
    (c.in-Err-feed.ensures.feeds _ _ _ (inv.taken ++ piece) c.requires (fed_before g.R.Responder.dialogue _ _ _ inv.taken piece _ _ _ _ inv.fed)))

pub returns-then-count-room : goal.returns-then-count-room
returns-then-count-room g c =
    let inv = c.loop-count.invariant in
    let buf = c.read.new.buf in
    let fits = c.min-fits.result in
    let count = c.in-Ok.count in
    let piece : List ℕ = take fits buf in
    let bound : count ≤ length buf = c.in-Ok.ensures.bound.0 in
    let full : length (inv.taken ++ piece) ≡ most_bytes = omega (arith, inv.room, c.min-fits.ensures, c.if-count-room.true, read_length inv.taken buf fits (omega arith)) in
    let more : 0 < length (drop fits (take count buf)) = omega (arith, bound, c.min-fits.ensures, c.if-count-room.true, length-drop fits (take count buf), length-take count buf) in
    let took = Consumes-trans _ _ _ inv.taken (take count buf) inv.took c.in-Ok.ensures.bytes.0 in
    let fed = c.in-Ok-feed.ensures.feeds _ _ _ (inv.taken ++ piece) c.requires (fed_before g.R.Responder.dialogue _ _ _ inv.taken piece _ _ _ _ inv.fed) in
    held_long g.R.Responder.dialogue g.R.Responder.law g.met.R.Responder.lawful _ _ _ _ _ _ _ (inv.taken ++ take count buf) (inv.taken ++ piece) (drop fits (take count buf)) took
    (omega (arith, inv.later, c.in-Ok.ensures.cause.later)) (within_read inv.taken buf fits count (omega arith)) (omega (arith, full)) c.requires full more
    (fed_whole g.R.Responder.dialogue _ _ _ (inv.taken ++ piece) _ _ _ _ fed)

pub loop-count-preserved : goal.loop-count-preserved
loop-count-preserved g c =
    let inv = c.loop-count.invariant in
    let buf = c.read.new.buf in
    let count = c.in-Ok.count in
    let bound : count ≤ length buf = c.in-Ok.ensures.bound.0 in
    let all : c.min-fits.result ≡ count = omega (arith, c.min-fits.ensures, c.if-count-room.false) in
    let piece : List ℕ = take c.min-fits.result buf in
    let fed = c.in-Ok-feed.ensures.feeds _ _ _ (inv.taken ++ piece) c.requires (fed_before g.R.Responder.dialogue _ _ _ inv.taken piece _ _ _ _ inv.fed) in
    let takes = subst (λ (n : ℕ). Consumes (g.I.Source.told c.loop-count.input).holds (g.I.Source.told c.read.new.self).holds (take n buf)) (sym all) c.in-Ok.ensures.bytes.0 in
    record {
      taken = inv.taken ++ piece;
      room = omega (arith, inv.room, all, c.if-count-room.false, read_length inv.taken buf c.min-fits.result (omega arith));
      took = Consumes-trans _ _ _ inv.taken piece inv.took takes;
      later = omega (arith, inv.later, c.in-Ok.ensures.cause.later);
      law = fed_law g.R.Responder.dialogue g.R.Responder.law g.met.R.Responder.lawful _ _ _ (inv.taken ++ piece) [] _ _ _ _ c.requires fed;
      fed = fed;
    }
