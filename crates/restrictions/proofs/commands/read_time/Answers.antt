use Rattle.std.proofs.Common.{◌≡◌, ap, arith, ◌∙◌}
use Rattle.restrictions.specs.Words.{after_first_word, after_spaces}
use Rattle.restrictions.proofs.WordFacts.{after_spaces-some, rest-some}
use Rattle.restrictions.proofs.commands.read_time.Goals as goal

pub returns-clause-on : goal.returns-clause-on
returns-clause-on c metres =
    let line = c.args.line.now in
    let some = after_spaces-some c.args.rest.now _ _ c.in-Some.ensures.words in
    let name : c.after_spaces-name.result.now ≡ after_first_word line = c.after_spaces-name.ensures ∙ ap after_spaces c.requires.rest in
    let starts = rest-some line (rw (← c.requires.rest) some) in
    (rw (name, c.rest_end.ensures) starts, rw c.rest_end.ensures (omega arith))
