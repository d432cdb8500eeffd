use Rattle.std.proofs.Common.{◌≡◌, ◌+◌, ◌++◌, ◌∙◌, ℕ, List, ap, codes, arith}
use Rattle.std.proofs.lemmas.Grind.{common_steps}
use Rattle.made_cases.specs.Files.{gradient_row, limit_row, points_text, rows}
use Rattle.made_cases.proofs.DrawFacts.{state_after-none}
use Rattle.made_cases.proofs.LineFacts.{rows-begin, rows-more}
use Rattle.made_cases.proofs.files.made_line.Goals as goal

pub loop-j-init : goal.loop-j-init
loop-j-init c =
    let n = c.args.draws.now.state in
    record {
      text = rows-begin (gradient_row n) (codes "line,Gen,120000\n") _ (grind (arith, common_steps));
      state = rw (state_after-none n);
    }

pub loop-j-preserved : goal.loop-j-preserved
loop-j-preserved c =
    let n = c.args.draws.now.state in
    let before = c.loop-j.invariant in
    record {
      text = rows-more (gradient_row n) c.loop-j.j (codes "line,Gen,120000\n") _ _ before.text (c.in_ok-put_gradient.ensures.row n before.state);
      state = c.in_ok-put_gradient.ensures.state n before.state;
    }

pub loop-j-2-init : goal.loop-j-2-init
loop-j-2-init c =
    let n = c.args.draws.now.state in
    let all : c.loop-j.j ≡ 120 = omega arith in
    let before = rw all at c.loop-j.invariant in
    record {
      text = rows-begin (limit_row n) (codes "line,Gen,120000\n" ++ rows (gradient_row n) 120) _ before.text;
      state = before.state;
    }

pub loop-j-2-preserved : goal.loop-j-2-preserved
loop-j-2-preserved c =
    let n = c.args.draws.now.state in
    let before = c.loop-j-2.invariant in
    let sum : 120 + c.loop-j-2.j + 1 ≡ 120 + (c.loop-j-2.j + 1) = omega arith in
    record {
      text = rows-more (limit_row n) c.loop-j-2.j (codes "line,Gen,120000\n" ++ rows (gradient_row n) 120) _ _ before.text (c.in_ok-put_limit.ensures.row n before.state);
      state = rw sum at (c.in_ok-put_limit.ensures.state n before.state);
    }

pub returns-clause-text : goal.returns-clause-text
returns-clause-text c =
    let all : c.loop-j-2.j ≡ 30 = omega arith in
    let before = rw all at c.loop-j-2.invariant.text in
    c.in-Ok-push_str.ensures.bytes ∙ ap (λ (t : List ℕ). t ++ points_text) before
