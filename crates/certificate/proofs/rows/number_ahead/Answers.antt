use Rattle.std.proofs.Common.{◌≡◌, get_or, arith, inl, inr}
use Rattle.std.proofs.lemmas.Int.Digits.{digits_more, digits_value_more}
use Rattle.std.proofs.lemmas.List.{take_rest}
use Rattle.std.proofs.lemmas.Str.{digit_value_digit}
use Rattle.certificate.proofs.AheadFacts.{numeral_ahead}
use Rattle.certificate.proofs.rows.number_ahead.Goals as goal

pub returns-then-not-is_ascii_digit-clause-numeral : goal.returns-then-not-is_ascii_digit-clause-numeral
returns-then-not-is_ascii_digit-clause-numeral c =
    let all = c.loop-at.invariant in
    let fits = c.loop-at.auto.number-fits in
    let lone : get_or c.args.text.now 0 0 ≡ 48 → c.loop-at.at ≡ 1 = λ zero. elim c.if-at-ne1.either [ inl one ↦ one.1 | inr none ↦ absurd (none zero) ] in
    rw take_rest (rw c.if-byte-end.false at (numeral_ahead c.args.text.now c.loop-at.at c.loop-at.number all.digits all.value (omega arith) c.loop-at-test.true (omega (arith, c.if-at-eq0.false)) lone))

pub loop-at-preserved : goal.loop-at-preserved
loop-at-preserved c =
    let at = c.loop-at.at in
    let l = c.loop-at-test.true in
    let range = rw c.if-not-is_ascii_digit.false at c.is_ascii_digit.ensures.cases in
    let digit = digit_value_digit (get_or c.args.text.now at 0) range in
    let before = c.loop-at.invariant in
    record {
      digits = digits_more 10 c.args.text.now at l before.digits (omega (arith, digit, range));
      value = let more = digits_value_more 10 c.args.text.now at l in let same = before.value in let byte = c.from.ensures in omega (arith, same, more, digit, range, byte);
    }
