use Rattle.std.proofs.Common.{◌==◌, arith, rules, sym}
use Rattle.std.proofs.lemmas.List.Sums.{position_or_len_is}
use Rattle.restrictions.proofs.words.len_before.Goals as goal

pub returns-else-text-len-clause-before : goal.returns-else-text-len-clause-before
returns-else-text-len-clause-before c =
    let same = c.loop-len.invariant in
    sym (position_or_len_is (λ b. b == c.args.stop) c.args.text.now c.loop-len.len 0 same.0 same.1 (λ _. search rules))

pub returns-after-loop-len-clause-before : goal.returns-after-loop-len-clause-before
returns-after-loop-len-clause-before c =
    let same = c.loop-len.invariant in
    sym (position_or_len_is (λ b. b == c.args.stop) c.args.text.now c.loop-len.len 0 same.0 same.1 (λ l. absurd (omega arith)))
