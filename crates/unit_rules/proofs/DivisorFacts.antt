-- A quotient that is guessed by a product.
use Rattle.std.proofs.Common.{◌≡◌, ℕ, ◌+◌, ◌-◌, ◌*◌, ◌/◌, ◌%◌, ◌^◌, ◌<◌, ◌≤◌, arith, sym, mod-lt, mul-le-mul_left, mul-le-mul_right}
use Rattle.std.proofs.lemmas.Nat.{div-add-mod', div-mul-add}
use Rattle.unit_rules.specs.Divisors.{IsDivisor}

-- a guess is the upper half of the product with the inverse
pub record IsGuess (n number inverse guess : ℕ) : Type 0 where
  pub small : n < 2 ^ 64
  pub divisor : IsDivisor number inverse
  pub half : guess ≡ n * inverse / 2 ^ 64

-- it is not above the quotient
pub guess-at_most : (n number inverse guess : ℕ) → IsGuess n number inverse guess → guess * number ≤ n
guess-at_most n number inverse guess g =
    let half = div-add-mod' (n * inverse) (2 ^ 64) in
    let product : guess * 2 ^ 64 ≤ n * inverse = omega (arith, half, g.half) in
    let all = div-add-mod' (2 ^ 64 - 1) number in
    let below : inverse * number ≤ 2 ^ 64 = rw g.divisor.times (omega (arith, all)) in
    let a : guess * 2 ^ 64 * number ≤ n * inverse * number = mul-le-mul_right number product in
    let b : n * (inverse * number) ≤ n * 2 ^ 64 = mul-le-mul_left n below in
    omega (arith, a, b)

-- and at most 1 below it
pub guess-next : (n number inverse guess : ℕ) → IsGuess n number inverse guess → n < guess * number + 2 * number
guess-next n number inverse guess g =
    let half = div-add-mod' (n * inverse) (2 ^ 64) in
    let rest : n * inverse % 2 ^ 64 < 2 ^ 64 = mod-lt (n * inverse) (omega arith) in
    let product : n * inverse + 1 ≤ guess * 2 ^ 64 + 2 ^ 64 = omega (arith, half, rest, g.half) in
    let all = div-add-mod' (2 ^ 64 - 1) number in
    let few : (2 ^ 64 - 1) % number < number = mod-lt (2 ^ 64 - 1) g.divisor.some in
    let near : 2 ^ 64 ≤ inverse * number + number = rw g.divisor.times (omega (arith, all, few)) in
    let a : (n * inverse + 1) * number ≤ (guess * 2 ^ 64 + 2 ^ 64) * number = mul-le-mul_right number product in
    let b : n * 2 ^ 64 ≤ n * (inverse * number + number) = mul-le-mul_left n near in
    let c : n * number ≤ 2 ^ 64 * number = mul-le-mul_right number (omega (arith, g.small)) in
    omega (arith, a, b, c, g.divisor.some)

-- a number that leaves less than the divisor is the quotient
pub quotient-by_rest : (n number quotient : ℕ) → quotient * number ≤ n → n < quotient * number + number → quotient ≡ n / number
quotient-by_rest n number quotient l h =
    let e : quotient * number + (n - quotient * number) ≡ n = omega arith in
    let q = div-mul-add quotient number (n - quotient * number) (omega arith) in
    sym (rw e at q)
