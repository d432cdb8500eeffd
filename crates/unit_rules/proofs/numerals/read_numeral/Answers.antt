use Rattle.std.proofs.Common.{◌≡◌, ◌≢◌, ◌⊎◌, ◌+◌, ◌-◌, ◌≤◌, ◌<◌, ◌^◌, ℕ, ℤ, List, length, take, drop, FitsSigned, ◌∙◌, arith, sym, refl}
use Rattle.std.specs.Fmt.{signed_decimal}
use Rattle.std.specs.Int.{w64}
use Rattle.std.proofs.lemmas.Grind.{common_steps}
use Rattle.std.proofs.lemmas.Fmt.{decimal_injective}
use Rattle.unit_rules.proofs.DigitFacts.{minus_case, none_along, plain_case}
use Rattle.unit_rules.proofs.numerals.read_numeral.Goals as goal

tail_is : (bs : List ℕ) → take (length bs - 1) (drop 1 bs) ≡ drop 1 bs
tail_is bs = grind (arith, common_steps)

pub returns-in-Some-clause-none : goal.returns-in-Some-clause-none
returns-in-Some-clause-none c =
    none_along c.below_zero.result ((c.in-Some.size ≡ 0) ⊎ (2 ^ 63 < c.in-Some.size)) ((z : ℤ) → FitsSigned w64 z → c.args.text.now ≢ signed_decimal z) c.below_zero.ensures.none (λ small z f e.
    let m = minus_case c.args.text.now z f (c.if-begins_with_minus.ensures.0 refl) e in
    let same : c.in-Some.size ≡ m.0 + 1 = decimal_injective c.in-Some.size (m.0 + 1) (omega arith) (omega (arith, m.1)) (sym c.in-Some.ensures.value ∙ tail_is c.args.text.now ∙ m.2) in
    grind (arith, same, small, m.1))

pub returns-in-None-clause-none : goal.returns-in-None-clause-none
returns-in-None-clause-none c z f e =
    let m = minus_case c.args.text.now z f (c.if-begins_with_minus.ensures.0 refl) e in
    c.in-None.ensures.none (m.0 + 1) (omega (arith, m.1)) (tail_is c.args.text.now ∙ m.2)

pub returns-in-Some-read_digits-clause-none : goal.returns-in-Some-read_digits-clause-none
returns-in-Some-read_digits-clause-none c =
    none_along c.from_zero.result (2 ^ 63 ≤ c.in-Some-read_digits.number) ((z : ℤ) → FitsSigned w64 z → c.args.text.now ≢ signed_decimal z) c.from_zero.ensures.none (λ large z f e.
    let m = plain_case c.args.text.now z f (λ q. cc (c.if-begins_with_minus.ensures.1 q)) e in
    let same : c.in-Some-read_digits.number ≡ m.0 = decimal_injective c.in-Some-read_digits.number m.0 (omega arith) (omega (arith, m.1)) (sym c.in-Some-read_digits.ensures.value ∙ m.2) in
    omega (arith, same, large, m.1))
