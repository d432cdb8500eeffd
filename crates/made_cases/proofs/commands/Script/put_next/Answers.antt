use Rattle.std.proofs.Common.{◌+◌, ◌++◌, ◌∷◌, [], ◌∙◌, ℕ, List, ap, sym, arith}
use Rattle.std.proofs.lemmas.List.{append_assoc, drop-append-le, length-append}
use Rattle.made_cases.proofs.DrawFacts.{draw-is, state_after-more}
use Rattle.made_cases.proofs.ScriptFacts.{put_row-is}
use Rattle.made_cases.proofs.commands.Script.put_next.Goals as goal

pub returns : goal.returns
returns c = λ n s kept.
    let first = state_after-more n s.draws (s.draws + 1) _ _ (omega arith) kept.state c.draw-from.ensures.state in
    let second = state_after-more n (s.draws + 1) (s.draws + 2) _ _ (omega arith) first c.draw.ensures.state in
    let third = state_after-more n (s.draws + 2) (s.draws + 3) _ _ (omega arith) second c.draw-2.ensures.state in
    let from = draw-is n s.draws (s.draws + 1) _ 119000 _ (omega arith) first c.draw-from.ensures.number in
    let more = draw-is n (s.draws + 1) (s.draws + 2) _ 900 _ (omega arith) second c.draw.ensures.number in
    let kmh = draw-is n (s.draws + 2) (s.draws + 3) _ 90 _ (omega arith) third c.draw-2.ensures.number in
    let row = put_row-is n s.draws c.args.j _ _ _ from more kmh in
    record {
      text = rw (row, ← kept.text) (simp append_assoc c.in-Ok.ensures.bytes);
      in_force = c.in-Ok-push_back.ensures.items ∙ ap (λ (q : List ℕ). q ++ c.args.j ∷ []) kept.in_force ∙ sym (drop-append-le s.taken s.puts (c.args.j ∷ []) kept.taken);
      taken = omega (arith, length-append s.puts (c.args.j ∷ []), kept.taken);
      state = third;
    }
