use Rattle.std.proofs.Common.{◌<◌, ap, sym, ◌∙◌, arith, length}
use Rattle.std.proofs.lemmas.Bool.{eqb-false, eqb-true}
use Rattle.std.proofs.lemmas.List.{nil_from_length, take_rest}
use Rattle.restrictions.specs.Words.{words_of}
use Rattle.restrictions.proofs.WordFacts.{after_spaces-word_len, words_of-after_spaces, words_of-first}
use Rattle.restrictions.proofs.words.first_word.Goals as goal

pub returns-then-is_empty-clause-words : goal.returns-then-is_empty-clause-words
returns-then-is_empty-clause-words c =
    let text = c.after_spaces-text.result.now in
    let blank = nil_from_length text (eqb-true (length text) 0 (sym c.is_empty.ensures ∙ c.if-is_empty.true)) in
    sym (words_of-after_spaces c.args.text.now) ∙ ap words_of (sym c.after_spaces-text.ensures ∙ blank)

pub returns-clause-words : goal.returns-clause-words
returns-clause-words c =
    let text = c.after_spaces-text.result.now in
    let end = c.len_before-end.result in
    let not_blank = eqb-false (length text) 0 (sym c.is_empty.ensures ∙ c.if-is_empty.false) in
    let some : 0 < length text = omega arith in
    let word = after_spaces-word_len c.args.text.now (rw c.after_spaces-text.ensures at some) in
    let first = words_of-first text end c.len_before-end.ensures.before (rw (c.len_before-end.ensures.before, c.after_spaces-text.ensures) word) in
    sym (words_of-after_spaces c.args.text.now) ∙ ap words_of (sym c.after_spaces-text.ensures) ∙ rw take_rest first
