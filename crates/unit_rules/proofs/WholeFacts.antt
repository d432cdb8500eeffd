-- What `whole_of` says of a numeral, and of any other text.
use Rattle.std.proofs.Common.{◌≡◌, ◌≢◌, ℕ, ◌<◌, ◌≤◌, ◌-◌, ◌^◌, suc, List, length, get_or, drop, refl, sym, ap, arith, Option, Some, None, IfSome, IfNone, option_and_then, not, ◌==◌, ◌&&◌, ◌||◌, ℤ, pos, negsuc, FitsSigned, Bool, true, false, nat_lt, nat_le, cond}
use Rattle.std.specs.Fmt.{decimal, signed_decimal}
use Rattle.std.specs.Int.{w64}
use Rattle.std.proofs.lemmas.Int.{ints}
use Rattle.std.specs.Str.{all_ascii_digits}
use Rattle.std.specs.Str.Parse.{digits_value}
use Rattle.std.proofs.lemmas.Str.Parse.{IsNumeralModel, numerals_by_value, tells_all_ascii_digits}
use Rattle.std.proofs.lemmas.Fmt.{digits_decimal, digits_value-decimal, decimal-digits_value}
use Rattle.std.proofs.lemmas.Bool.{and_parts}
use Rattle.std.proofs.lemmas.Bool.Decides.{nat_tests}
use Rattle.unit_rules.specs.Numeral.{below_zero, from_zero, is_plain_numeral, plain_of, whole_of}
use Rattle.unit_rules.proofs.DigitFacts.{Begins, Begins-decimal, minus_value}

tests : IsNumeralModel (λ ds. all_ascii_digits ds ≡ true) (digits_value 10)
tests = numerals_by_value (λ ds. all_ascii_digits ds ≡ true) tells_all_ascii_digits

plain-by : (ds : List ℕ) → all_ascii_digits ds ≡ true → Begins ds → is_plain_numeral ds ≡ true
plain-by ds d b =
    let s = b.some in
    let z = b.zero in
    rw d (grind (arith, nat_tests, s, z))

-- what the test says
record Parts (ds : List ℕ) : Type 0 where
  digits : all_ascii_digits ds ≡ true
  some : 0 < length ds
  lone : get_or ds 0 0 ≡ 48 → length ds ≡ 1

plain-parts : (ds : List ℕ) → is_plain_numeral ds ≡ true → Parts ds
plain-parts ds e =
    let whole = and_parts (all_ascii_digits ds && nat_lt 0 (length ds)) (not (get_or ds 0 0 == 48) || (length ds == 1)) e in
    let front = and_parts (all_ascii_digits ds) (nat_lt 0 (length ds)) whole.0 in
    let some = front.1 in
    let lone = whole.1 in
    record { digits = front.0; some = grind (arith, nat_tests, some); lone = λ z. grind (arith, nat_tests, lone, z) }

-- a numeral has its number
pub plain_of-decimal : (n : ℕ) → n < 2 ^ 64 → plain_of (decimal n) ≡ Some n
plain_of-decimal n h = rw (plain-by (decimal n) (digits_decimal tests n h) (Begins-decimal n h)) (ap (λ (x : ℕ). Some x) (digits_value-decimal tests n h))

-- and what has one is its numeral
pub plain_of-some : (ds : List ℕ) (n : ℕ) → n < 2 ^ 64 → plain_of ds ≡ Some n → ds ≡ decimal n
plain_of-some ds n h e = by (is_plain_numeral ds) refl e
  where
    by : (b : Bool) → is_plain_numeral ds ≡ b → cond b (Some (digits_value 10 ds)) None ≡ Some n → ds ≡ decimal n
    by true t g =
        let p = plain-parts ds t in
        let v : digits_value 10 ds ≡ n = cc g in
        rw (← v) (sym (decimal-digits_value tests ds p.digits p.some p.lone (omega arith)))
    by false t g = cc g

-- the numeral of a number of 64 bits has that number
pub whole_of-numeral : (z : ℤ) → FitsSigned w64 z → whole_of (signed_decimal z) ≡ Some z
unfolding whole_of
whole_of-numeral (pos n) f =
    let small : n < 2 ^ 63 = omega (arith, ints) in
    let b = Begins-decimal n (omega arith) in
    let d = b.digit in
    let no_minus : (get_or (decimal n) 0 0 == 45) ≡ false = grind (arith, nat_tests, d) in
    let fits : nat_lt n (2 ^ 63) ≡ true = grind (arith, nat_tests, small) in
    rw (no_minus, plain_of-decimal n (omega arith), fits) refl
whole_of-numeral (negsuc n) f =
    let small : suc n ≤ 2 ^ 63 = omega (arith, ints) in
    let fits : nat_le (suc n) (2 ^ 63) ≡ true = grind (arith, nat_tests, small) in
    let first : nat_lt 0 (suc n) ≡ true = grind (arith, nat_tests) in
    let back : suc n - 1 ≡ n = omega arith in
    rw (plain_of-decimal (suc n) (omega arith), fits, first, back) refl

-- the text is the numeral of a number of 64 bits
pub record IsNumeralOf (text : List ℕ) (z : ℤ) : Type 0 where
  pub fits : FitsSigned w64 z
  pub same : text ≡ signed_decimal z

from_zero-some : (n : ℕ) (z : ℤ) → from_zero n ≡ Some z → (n < 2 ^ 63) × (z ≡ pos n)
from_zero-some n z e = by (nat_lt n (2 ^ 63)) refl e
  where
    by : (b : Bool) → nat_lt n (2 ^ 63) ≡ b → cond b (Some (pos n)) None ≡ Some z → (n < 2 ^ 63) × (z ≡ pos n)
    by true t g = (grind (arith, nat_tests, t), cc g)
    by false t g = cc g

below_zero-some : (n : ℕ) (z : ℤ) → below_zero n ≡ Some z → (0 < n) × (n ≤ 2 ^ 63) × (z ≡ negsuc (n - 1))
below_zero-some n z e = by (nat_lt 0 n && nat_le n (2 ^ 63)) refl e
  where
    by : (b : Bool) → (nat_lt 0 n && nat_le n (2 ^ 63)) ≡ b → cond b (Some (negsuc (n - 1))) None ≡ Some z → (0 < n) × (n ≤ 2 ^ 63) × (z ≡ negsuc (n - 1))
    by true t g =
        let parts = and_parts (nat_lt 0 n) (nat_le n (2 ^ 63)) t in
        let p = parts.0 in
        let q = parts.1 in
        (grind (arith, nat_tests, p), grind (arith, nat_tests, q), cc g)
    by false t g = cc g

-- what has a number of 64 bits is its numeral
pub whole_of-some : (text : List ℕ) (z : ℤ) → whole_of text ≡ Some z → IsNumeralOf text z
unfolding whole_of
whole_of-some text z e = by (get_or text 0 0 == 45) refl e
  where
    plain : (o : Option ℕ) → plain_of text ≡ o → option_and_then from_zero o ≡ Some z → IsNumeralOf text z
    plain None p g = cc g
    plain (Some n) p g =
        let h = from_zero-some n z g in
        rw h.1 (record { fits = omega (arith, ints, h.0); same = plain_of-some text n (omega (arith, h.0)) p })

    minus : (o : Option ℕ) → get_or text 0 0 ≡ 45 → plain_of (drop 1 text) ≡ o → option_and_then below_zero o ≡ Some z → IsNumeralOf text z
    minus None m p g = cc g
    minus (Some n) m p g =
        let h = below_zero-some n z g in
        let d = plain_of-some (drop 1 text) n (omega (arith, h.1)) p in
        record { fits = rw h.2 (omega (arith, ints, h.0, h.1)); same = minus_value text n z m d h.0 h.2 }

    by : (b : Bool) → (get_or text 0 0 == 45) ≡ b → cond b (option_and_then below_zero (plain_of (drop 1 text))) (option_and_then from_zero (plain_of text)) ≡ Some z → IsNumeralOf text z
    by true t g = minus (plain_of (drop 1 text)) (grind (arith, nat_tests, t)) refl g
    by false t g = plain (plain_of text) refl g

-- what no number of 64 bits has as its numeral has none
pub whole_of-none : (text : List ℕ) → ((z : ℤ) → FitsSigned w64 z → text ≢ signed_decimal z) → whole_of text ≡ None
whole_of-none text h = by (whole_of text) refl
  where
    by : (o : Option ℤ) → whole_of text ≡ o → o ≡ None
    by None e = refl
    by (Some z) e = let n = whole_of-some text z e in absurd (h z n.fits n.same)

-- a result that is a number's only at its numeral, and none only where no number has it
pub whole_is : (o : Option ℤ) (text : List ℕ) → IfSome o (λ z. text ≡ signed_decimal z) → IfSome o (λ z. FitsSigned w64 z)
    → IfNone o ((z : ℤ) → FitsSigned w64 z → text ≢ signed_decimal z) → o ≡ whole_of text
whole_is None text s f n = sym (whole_of-none text n)
whole_is (Some z) text s f n = rw s (sym (whole_of-numeral z f))
