use Rattle.std.proofs.Common.{◌≡◌, ◌<◌, length, get_or, take, arith, sym, ◌∙◌}
use Rattle.std.proofs.lemmas.Grind.{common_steps}
use Rattle.std.proofs.lemmas.Fmt.{decimal-digits_value}
use Rattle.std.proofs.lemmas.Int.Digits.{digits_more, digits_value_more}
use Rattle.std.proofs.lemmas.List.{take_all}
use Rattle.std.proofs.lemmas.Str.Parse.{digit_at}
use Rattle.std.proofs.lemmas.Str.{digit_value_digit}
use Rattle.unit_rules.proofs.DigitFacts.{Begins-numeral, IsDigitsOf-decimal, first_is, front_value, own}
use Rattle.unit_rules.proofs.numerals.read_digits.Goals as goal

pub returns-in_default-clause-none : goal.returns-in_default-clause-none
returns-in_default-clause-none c n h e =
    let b : 0 < length c.args.text.now = (Begins-numeral n c.args.text.now h e).some in
    grind (arith, common_steps)

pub returns-then-text-ne1-clause-none : goal.returns-then-text-ne1-clause-none
returns-then-text-ne1-clause-none c n h e =
    let b = Begins-numeral n c.args.text.now h e in
    let z = b.zero in
    grind (arith, common_steps)

pub returns-in_default-with_digit-clause-none : goal.returns-in_default-with_digit-clause-none
returns-in_default-with_digit-clause-none c n h e =
    let is = IsDigitsOf-decimal c.args.text.now n h e in
    let digit = digit_at c.args.text.now c.loop-byte.byte-index is.digits (omega arith) in
    let front = front_value c.args.text.now n c.loop-byte.byte-index is (omega arith) in
    let over = c.in_default-with_digit.ensures.none digit in
    let same = c.loop-byte.invariant.value in
    omega (arith, rw same at over, front)

pub loop-byte-preserved : goal.loop-byte-preserved
loop-byte-preserved c =
    let i = c.loop-byte.byte-index in
    let value = c.in-Some-with_digit.ensures.value in
    let digit = digit_value_digit (get_or c.args.text.now i 0) value.0 in
    let before = c.loop-byte.invariant in
    record {
      digits = digits_more 10 c.args.text.now i (omega arith) before.digits (omega (arith, digit, value.0));
      fits = c.in-Some-with_digit.ensures.fits;
      value = value.1 ∙ rw before.value (sym (digits_value_more 10 c.args.text.now i (omega arith)));
    }

pub returns-clause-value : goal.returns-clause-value
returns-clause-value c =
    let text = c.args.text.now in
    let first = first_is text c.in-Some.first.now c.in-Some.ensures.value in
    let zero = c.else-first-eq48.either in
    let lone : get_or text 0 0 ≡ 48 → length text ≡ 1 = λ z. grind (arith, first.1, z, zero) in
    let all = c.loop-byte.invariant in
    let whole : take c.loop-byte.byte-index text ≡ text = take_all c.loop-byte.byte-index text (omega arith) in
    let digits = rw whole at all.digits in
    let value = rw whole at all.value in
    rw value (sym (decimal-digits_value own text digits first.0 lone (rw (← value) all.fits)))
