use Rattle.std.proofs.Common.{arith, rules, sym}
use Rattle.std.proofs.lemmas.List.Sums.{prefix_len_is}
use Rattle.restrictions.specs.Words.{is_space}
use Rattle.restrictions.proofs.words.spaces_len.Goals as goal

pub returns-else-text-len-eq32-clause-spaces : goal.returns-else-text-len-eq32-clause-spaces
returns-else-text-len-eq32-clause-spaces c =
    let same = c.loop-len.invariant in
    sym (prefix_len_is is_space c.args.text.now c.loop-len.len 0 same.0 same.1 (λ _. search rules))

pub returns-after-loop-len-clause-spaces : goal.returns-after-loop-len-clause-spaces
returns-after-loop-len-clause-spaces c =
    let same = c.loop-len.invariant in
    sym (prefix_len_is is_space c.args.text.now c.loop-len.len 0 same.0 same.1 (λ l. absurd (omega arith)))
