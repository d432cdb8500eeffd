use Rattle.std.proofs.Common.{◌+◌, ◌++◌, ◌∙◌, ℕ, List, SFits, ap, arith, pos, rules, string_bytes, sym, w64, ◌-ℤ◌}
use Rattle.std.proofs.lemmas.Int.{to_z-of_z}
use Rattle.made_cases.proofs.DrawFacts.{draw-is, state_after-more}
use Rattle.made_cases.proofs.LineFacts.{gradient_row-is}
use Rattle.made_cases.proofs.files.put_gradient.Goals as goal

pub returns-clause-row : goal.returns-clause-row
returns-clause-row c = λ n state.
    let moved = state_after-more n c.args.j (c.args.j + 1) _ _ (omega arith) state c.draw.ensures.state in
    let number = draw-is n c.args.j (c.args.j + 1) _ 201 _ (omega arith) moved c.draw.ensures.number in
    let fits : SFits w64 c.gradient_of-gradient.result = search rules in
    let gradient = c.gradient_of-gradient.ensures ∙ ap (λ (x : ℕ). pos x -ℤ pos 100) number in
    simp to_z-of_z at c.in-Ok.ensures.bytes
    ∙ ap (λ (t : List ℕ). string_bytes c.args.text.now ++ t) (sym (gradient_row-is n c.args.j c.gradient_of-gradient.result gradient))
