use Rattle.std.proofs.Common.{◌≡◌, ◌-◌, ◌+◌, ℕ, List, ◌++◌, length, length-drop, arith, ap, sym, ◌∙◌, append_assoc}
use Rattle.run_io.specs.Texts.{lines_from, piece}
use Rattle.run_io.proofs.LineFacts.{pieces-from}
use Rattle.run_io.proofs.TextFacts.{lines_from-before}
use Rattle.run_io.proofs.blocks.Block.put_line.Goals as goal

pub loop-place-preserved : goal.loop-place-preserved
loop-place-preserved c =
    let place = c.loop-place.place - 1 in
    let text = piece c.args.numbers.now in
    let n = length c.args.numbers.now + 1 - c.loop-place.place in
    let next : place + 1 ≡ c.loop-place.place = omega (arith, c.loop-place-test.true) in
    let long : length c.args.numbers.now + 1 - place ≡ n + 1 = omega (arith, c.loop-place-test.true) in
    let before = rw next at (lines_from-before text place n (length c.args.numbers.now + 1 - place) long) in
    let start = c.write_piece-at.ensures.start in
    let inv = c.loop-place.invariant in
    record {
      room = omega (arith, start, inv.room, c.loop-place-test.true);
      within = omega (arith, start, inv.within);
      long = omega (arith, inv.long);
      short = omega (arith, start, inv.short, c.loop-place-test.true);
      text = c.write_piece-at.ensures.written ∙ ap (λ (q : List ℕ). text place ++ q) inv.text ∙ sym (append_assoc (text place) (lines_from text c.loop-place.place n) c.args.self.now)
          ∙ ap (λ (q : List ℕ). q ++ c.args.self.now) (sym before);
    }

pub returns-clause-text : goal.returns-clause-text
returns-clause-text c =
    let first : c.loop-place.place ≡ 0 = omega (arith, c.loop-place-test.false) in
    let all : length c.args.numbers.now + 1 - 0 ≡ length c.args.numbers.now + 1 = omega arith in
    rw (first, all) at c.loop-place.invariant.text ∙ ap (λ (q : List ℕ). q ++ c.args.self.now) (pieces-from c.args.numbers.now)

pub returns-clause-short : goal.returns-clause-short
returns-clause-short c = omega (arith, length-drop c.loop-place.at c.loop-place.self-inside.bytes, c.loop-place.invariant.long, c.loop-place.invariant.short)
